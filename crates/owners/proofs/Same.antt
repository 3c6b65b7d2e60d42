-- The test of two owners is their equality, and the test that `==` makes.
use mathlib.Core.Path.{◌≡◌, refl, sym, ap₂}
use mathlib.Core.Bool.{true, true≢false}
use borrow.Author.Tests.{eq-eqb, eqb-true}
use lib.Dec.{eqb}
use Rattle.words.proofs.Tests.{both_left, both_right}
use Rattle.lines.specs.declared.Owner.{Owner}
use Rattle.lines.specs.declared.Owner.TheVariants.{LpcInput, LioInput, BioInput, Nobody}
use Rattle.lines.specs.contracts.OwnerPartialEq.TheImpl as derived
use Rattle.owners.specs.Table.{same_owner}

pub same_owner_lem : (one other : Owner) → same_owner one other ≡ true → one ≡ other
unfolding same_owner
same_owner_lem LpcInput LpcInput h = refl
same_owner_lem (LioInput i) (LioInput j) h = rw (eqb-true i j h) refl
same_owner_lem (BioInput node v) (BioInput other w) h =
    ap₂ BioInput (eqb-true node other (both_left (eqb node other) (eqb v w) h)) (eqb-true v w (both_right (eqb node other) (eqb v w) h))
same_owner_lem Nobody Nobody h = refl
same_owner_lem one another h = absurd (true≢false (sym h))

-- what the derived `==` tells
pub as_derived : (one other : Owner) → derived.eq-value.it one other ≡ same_owner one other
unfolding same_owner
as_derived LpcInput LpcInput = refl
as_derived (LioInput i) (LioInput j) = refl
as_derived (BioInput node v) (BioInput other w) = refl
as_derived Nobody Nobody = refl
as_derived one another = refl

pub owner_same : (one other : Owner) → one ≡ other → same_owner one other ≡ true
unfolding same_owner
owner_same one other e = rw e (go other)
  where
    go : (o : Owner) → same_owner o o ≡ true
    go LpcInput = refl
    go (LioInput i) = eq-eqb i i refl
    go (BioInput node v) = rw (eq-eqb node node refl, eq-eqb v v refl) refl
    go Nobody = refl
