-- Two rules in order, each told at place 0: what is told, by which of them is broken.
use Rattle.std.proofs.Common.{◌≡◌, ℕ, Bool, true, false, ◌⊎◌, [], ◌∷◌, sym, refl, ◌∙◌, inl, inr}
use Rattle.words.specs.Refusals.{Verdict, refused, rule, first_refusal}
use Rattle.words.specs.declared.Refusal.{Refusal}
use Rattle.words.proofs.Verdicts.{not_sound, same_refusal, first_none, first_broken_lem, first_kept}
use Rattle.std.specs.Prelude.{Ok, Err}

module _ (a b : Bool) (m n : ℕ) where
  abbrev pub both : Verdict
  both = first_refusal (rule a m 0 ∷ rule b n 0 ∷ [])

  pub first_due : a ≡ true → both ≡ Err (refused m 0)
  first_due = first_broken_lem a m 0 _

  pub second_due : a ≡ false → b ≡ true → both ≡ Err (refused n 0)
  second_due h k = first_kept a m 0 _ h (first_broken_lem b n 0 [] k)

  pub none_due : a ≡ false → b ≡ false → both ≡ Ok tt
  none_due h k = first_kept a m 0 _ h (first_kept b n 0 [] k first_none)

  -- a refusal that is told is one of the two, and due
  pub one_of_two : (r : Refusal) → both ≡ Err r → ((a ≡ true) × (refused m 0 ≡ r)) ⊎ ((a ≡ false) × (b ≡ true) × (refused n 0 ≡ r))
  one_of_two r h = go a b refl refl
    where
      go : (x y : Bool) → a ≡ x → b ≡ y → ((a ≡ true) × (refused m 0 ≡ r)) ⊎ ((a ≡ false) × (b ≡ true) × (refused n 0 ≡ r))
      go true y e f = inl (e, same_refusal (sym (first_due e) ∙ h))
      go false true e f = inr (e, f, same_refusal (sym (second_due e f) ∙ h))
      go false false e f = not_sound (sym h ∙ none_due e f)
