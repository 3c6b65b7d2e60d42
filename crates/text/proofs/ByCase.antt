-- What is written of a half of the LIO, of the HT, of the LPC, of a refusal's places, of a processor list and of the SCI, by their cases.
use mathlib.Core.Path.{◌≡◌, refl}
use mathlib.Core.Bool.{true, false}
use mathlib.Core.List.{List, [], ◌∷◌, ◌++◌}
use Prim.Native.Nat.{ℕ, ◌<◌}
use native.Mathlib.Omega.{arith}
use lib.ListN.{length, get_or}
use borrow.Author.Tests.{eq-eqb, ne_eqb}
use Rattle.std.specs.Prelude.{Ok}
use Rattle.words.proofs.Choices.{yes_if, no_if}
use Rattle.kinds.specs.declared.Half.{Half}
use Rattle.kinds.specs.declared.Ht.{Ht}
use Rattle.kinds.specs.declared.Lpc.{Lpc}
use Rattle.text.specs.Numerals.{letters}
use Rattle.lines.specs.declared.Route.{Route}
use Rattle.lines.specs.declared.Route.TheVariants.{Arrives, Unwired, NoOwner}
use Rattle.text.specs.Lines.{phrase, line, core_line, core_lines, half_line, ht_line, lpc_line, sci_line, places_line}

pub half_unused : (half : Half) → half.mask ≡ 0 → half_line half ≡ []
unfolding half_line
half_unused half h = yes_if _ _ _ (eq-eqb half.mask 0 h)

pub half_used : (half : Half) → (half.mask ≡ 0 → ⊥) → half_line half ≡ line (letters "lio") (half.cascade ∷ half.mask ∷ [])
unfolding half_line
half_used half h = no_if _ _ _ (ne_eqb half.mask 0 h) refl

pub ht_absent : (ht : Ht) → ht.present ≡ false → ht_line ht ≡ []
unfolding ht_line
ht_absent ht h = no_if _ _ _ h refl

pub ht_there : (ht : Ht) → ht.present ≡ true → ht_line ht ≡ line (letters "ht") ht.bytes
unfolding ht_line
ht_there ht h = yes_if _ _ _ h

pub lpc_absent : (lpc : Lpc) → lpc.present ≡ false → lpc_line lpc ≡ []
unfolding lpc_line
lpc_absent lpc h = no_if _ _ _ h refl

pub lpc_present : (lpc : Lpc) → lpc.present ≡ true → lpc_line lpc ≡ line (letters "lpc") (lpc.node ∷ lpc.cascade ∷ [])
unfolding lpc_line
lpc_present lpc h = yes_if _ _ _ h

pub one_place : (place second : ℕ) → second ≡ 0 → places_line place second ≡ line (letters " at") (place ∷ [])
unfolding places_line
one_place place second h = yes_if _ _ _ (eq-eqb second 0 h)

pub two_places : (place second : ℕ) → (second ≡ 0 → ⊥)
    → places_line place second ≡ phrase (letters " at") (place ∷ []) ++ line (letters " with") (second ∷ [])
unfolding places_line
two_places place second h = no_if _ _ _ (ne_eqb second 0 h) refl

-- two numbers of a processor list, and the later ones
pub next_core : (list core later : List ℕ) → list ≡ core ++ later → length core ≡ 2
    → core_lines list ≡ core_line (get_or core 0 0) (get_or core 1 0) ++ core_lines later
unfolding core_lines
next_core list core later e two = rw e (pair core two)
  where
    pair : (core : List ℕ) → length core ≡ 2 → core_lines (core ++ later) ≡ core_line (get_or core 0 0) (get_or core 1 0) ++ core_lines later
    pair [] h = absurd (omega arith)
    pair (uid ∷ []) h = absurd (omega arith)
    pair (uid ∷ id ∷ []) h = refl
    pair (uid ∷ id ∷ x ∷ xs) h = absurd (omega arith)

pub no_core : (list : List ℕ) → length list < 2 → core_lines list ≡ []
unfolding core_lines
no_core [] few = refl
no_core (uid ∷ []) few = refl
no_core (uid ∷ id ∷ later) few = absurd (omega arith)

pub no_sci : (sci : ℕ) (route : Route) → ((vector number : ℕ) → route ≡ Arrives vector number → ⊥) → sci_line sci (Ok route) ≡ []
unfolding sci_line
no_sci sci (Arrives vector number) h = absurd (h vector number refl)
no_sci sci Unwired h = refl
no_sci sci NoOwner h = refl
