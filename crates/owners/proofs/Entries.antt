-- Laws of the table's entries: what a table has for each number, and when two tables have the same.
use mathlib.Core.Path.{◌≡◌, sym, ap, ◌∙◌}
use mathlib.Core.Bool.{Bool, true, not}
use mathlib.Core.List.{List}
use Prim.Native.Nat.{ℕ, ◌<◌}
use native.Mathlib.Nat.{zero-add}
use native.Mathlib.Omega.{arith}
use lib.ListN.{length, get_or}
use lib.Pointwise.{pointwise, pointwise_decides}
use lib.Seq.{ext_get_or}
use Rattle.std.proofs.lemmas.Bool.Decides.{same_from_decides}
use Rattle.words.specs.Lists.{numbers_below}
use Rattle.words.proofs.Counted.{length-made, made_at, each-taken, all_taken}
use Rattle.lines.specs.Says.{says}
use Rattle.lines.specs.Routes.{owner}
use Rattle.lines.specs.contracts.OwnerPartialEq.TheImpl as derived
use Rattle.lines.specs.declared.Map.{Map}
use Rattle.lines.specs.declared.Owner.{Owner}
use Rattle.lines.specs.declared.Owner.TheVariants.{Nobody}
use Rattle.owners.specs.Table.{table_of, owner_in, same_owner, same_table}
use Rattle.owners.specs.declared.OwnerTable.{OwnerTable}
use Rattle.owners.proofs.Same.{same_owner_lem, owner_same, as_derived}

-- ---- the map's own table
pub its_own : (map : Map) (k : ℕ) → k < 320 → owner_in (table_of map) k ≡ owner (says map) k
unfolding owner_in table_of numbers_below
its_own map k l = made_at (owner (says map)) 0 320 k Nobody l ∙ ap (owner (says map)) (zero-add k)

pub own_size : (map : Map) → length (table_of map).entries ≡ 320
unfolding table_of numbers_below
own_size map = length-made (owner (says map)) 0 320

-- a table that has for each number the owner that the map gives it is the map's own
pub owned_so : (map : Map) (entries : List Owner) → length entries ≡ 320 → ((k : ℕ) → k < 320 → get_or entries k Nobody ≡ owner (says map) k)
    → record { entries = entries } ≡ table_of map
unfolding owner_in
owned_so map entries size each =
    ap (λ (l : List Owner). record { entries = l })
    (ext_get_or Nobody entries (table_of map).entries (size ∙ sym (own_size map)) (λ k l. each k (omega (arith, size)) ∙ sym (its_own map k (omega (arith, size)))))

-- ---- tables with the same content
module _ (one other : OwnerTable) where
  pub same_each : same_table one other ≡ true → (k : ℕ) → k < 320 → owner_in one k ≡ owner_in other k
  unfolding same_table numbers_below
  same_each h k l =
      same_owner_lem (owner_in one k) (owner_in other k) (each-taken (λ n. same_owner (owner_in one n) (owner_in other n)) 0 320 h k (omega arith) (omega arith))

  pub each_same : ((k : ℕ) → k < 320 → owner_in one k ≡ owner_in other k) → same_table one other ≡ true
  unfolding same_table numbers_below
  each_same each =
      all_taken (λ n. same_owner (owner_in one n) (owner_in other n)) 0 320
      (λ k low high. owner_same (owner_in one k) (owner_in other k) (each k (omega arith)))

  -- of 320 entries each, they are one table
  pub same_table_lem : length one.entries ≡ 320 → length other.entries ≡ 320 → same_table one other ≡ true → one ≡ other
  unfolding owner_in
  same_table_lem size size' h =
      ap (λ (entries : List Owner). record { entries = entries })
      (ext_get_or Nobody one.entries other.entries (size ∙ sym size') (λ k l. same_each h k (omega (arith, size))))

  -- which is what `==` tells of them
  pub told_same : length one.entries ≡ 320 → length other.entries ≡ 320 → pointwise derived.eq-value.it one.entries other.entries ≡ same_table one other
  told_same size size' =
      same_from_decides _ _
      (pointwise_decides (λ x y. (λ h. same_owner_lem x y (sym (as_derived x y) ∙ h), λ e. as_derived x y ∙ owner_same x y e)) one.entries other.entries)
      (λ h. ap (λ (t : OwnerTable). t.entries) (same_table_lem size size' h), λ e. each_same (λ k l. ap (λ (es : List Owner). owner_in (record { entries = es }) k) e))

-- `!=` beside a map's own table tells whether the content is another
pub told_other : (table : OwnerTable) (map : Map) → length table.entries ≡ 320 → {own : OwnerTable} → own ≡ table_of map → {told : Bool}
    → told ≡ not (pointwise derived.eq-value.it table.entries own.entries) → told ≡ not (same_table table (table_of map))
told_other table map size e t = t ∙ (rw e (ap not (told_same table (table_of map) size (own_size map))))
