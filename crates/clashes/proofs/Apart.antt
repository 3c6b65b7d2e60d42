-- Two claims that are apart clash by no rule, whichever of them comes first.
use Prim.Native.Nat.{ℕ}
use mathlib.Core.Path.{◌≡◌, sym, ◌∙◌}
use mathlib.Core.Bool.{Bool, true, false, ◌||◌, true≢false}
use borrow.Author.Tests.{not-true}
use lib.Dec.{eqb}
use Rattle.words.specs.Choice.{if}
use Rattle.clashes.specs.Rules.{repeats_node, shares_number, shares_vector, shares_core, clash}
use Rattle.clashes.specs.Apart.{apart}
use Rattle.clashes.specs.declared.Claim.{Claim}
use Rattle.clashes.proofs.Logic.{or_neither, is_false}
use Rattle.clashes.proofs.Symmetric.{clash_back}

module _ (rule : ℕ) (x y : Claim) where
  pub apart-clash : apart x y ≡ true → clash rule x y ≡ false
  unfolding apart clash if
  apart-clash h =
      let a = repeats_node x y in
      let b = shares_number x y in
      let c = shares_vector x y in
      let d = shares_core x y in
      let none = or_neither (a || b || c) d (not-true (a || b || c || d) h) in
      let few = or_neither (a || b) c none.0 in
      let two = or_neither a b few.0 in
      go (eqb rule 41) (eqb rule 51) (eqb rule 52) two.0 two.1 few.1 none.1
    where
      go : (p q r : Bool) → repeats_node x y ≡ false → shares_number x y ≡ false → shares_vector x y ≡ false → shares_core x y ≡ false
          → if p (repeats_node x y) (if q (shares_number x y) (if r (shares_vector x y) (shares_core x y))) ≡ false
      go true q r a b c d = a
      go false true r a b c d = b
      go false false true a b c d = c
      go false false false a b c d = d

  pub apart_clash_back : apart x y ≡ true → clash rule y x ≡ false
  apart_clash_back h =
      is_false (clash rule y x) (λ t. true≢false (sym (clash_back rule y x t) ∙ apart-clash h))
