-- What is read again from where the walk has noted that the enabled CORE stand: in a MADT that breaks no rule of its structures these are
-- its processors, so that neither the list nor 39 changes by it.
use mathlib.Core.Path.{◌≡◌, refl, sym, ap, ◌∙◌}
use mathlib.Core.List.{List, [], ◌∷◌, map, map-map}
use Prim.Native.Nat.{ℕ, zero, suc, ◌+◌, ◌≤◌, ◌<◌}
use native.Mathlib.Omega.{arith}
use lib.ListN.{length, take, drop, get_or}
use lib.Seq.{sets-eq, take-append_seam}
use Rattle.words.specs.Bytes.{part_at}
use Rattle.words.specs.Refusals.{first_refusal}
use Rattle.words.proofs.Numbers.{number_take, number_drop}
use Rattle.words.proofs.Those.{length-map}
use Rattle.kinds.specs.Makers.{core_of}
use Rattle.madt.specs.Pieces.{Whole}
use Rattle.madt.specs.Contents.{offsets_of, found_in}
use Rattle.madt.specs.Walk.{walk_rules, walked}
use Rattle.madt.specs.Noting.{noted}
use Rattle.madt.specs.declared.Found.{Found}
use Rattle.madt.proofs.Accepted.{rules_sound, found_is, taken_all, few_enabled, core_bytes}
use Rattle.processors.specs.Listing.{cores_of, ids_of, numbers_of, processors, count}
use Rattle.processors.specs.Repeats.{no_processor, first_repeat}
use Rattle.processors.specs.Again.{processor_at, processors_at, repeat_at, Standing}
use Rattle.std.specs.Prelude.{Ok}

-- ---- one CORE
-- the processor that is read from offset k of some
pub read_at : (table offsets : List ℕ) (k : ℕ) → k < length offsets → processor_at table (get_or offsets k 0) ≡ get_or (processors_at table offsets) k no_processor
read_at table [] k l = absurd (omega arith)
read_at table (at ∷ offsets) zero l = refl
read_at table (at ∷ offsets) (suc k) l = read_at table offsets k (omega arith)

-- its IDs are the same in its own fifteen bytes and in the table
read_again : (table : List ℕ) (at : ℕ) → ids_of (core_of (part_at table at 15)) ≡ processor_at table at
unfolding core_of processor_at
read_again table at =
    rw (number_take 4 (drop at table) 15 3 (omega arith), number_take 4 (drop at table) 15 7 (omega arith), number_drop 4 table at 3, number_drop 4 table at 7)

all_again : (table offsets : List ℕ) → map (λ (at : ℕ). ids_of (core_of (part_at table at 15))) offsets ≡ processors_at table offsets
all_again table [] = refl
all_again table (at ∷ offsets) = rw (read_again table at, all_again table offsets)

-- ---- all of them
module _ (table : List ℕ) (base sci : ℕ) (pins : ℕ → ℕ) (h : (walked table base sci pins).verdict ≡ Ok tt) where
  rules_kept : first_refusal (walk_rules table base) ≡ Ok tt
  rules_kept = rules_sound table base sci pins h

  standing : Standing table (offsets_of (cores_of table))
  standing = (
    refl,
    sym (all_again table (offsets_of (cores_of table)))
        ∙ sym (map-map (λ (s : List ℕ). ids_of (core_of s)) (λ (at : ℕ). part_at table at 15) (offsets_of (cores_of table)))
        ∙ ap (λ (own : List (List ℕ)). map (λ (s : List ℕ). ids_of (core_of s)) own) (sym (core_bytes table base rules_kept))
        ∙ map-map (λ (s : List ℕ). ids_of (core_of s)) (λ (x : Whole). x.bytes) (cores_of table),
  )

  -- the walk's count is the list's
  pub enabled_count : (walked table base sci pins).found.enabled ≡ count table
  unfolding found_in count
  enabled_count = ap (λ (f : Found). f.enabled) (found_is table base sci pins h)

  -- the front of the room that was lent to the walk
  noted_front : (room : List ℕ) → length room ≡ 256 → take (walked table base sci pins).found.enabled (noted table base room) ≡ offsets_of (cores_of table)
  unfolding noted count
  noted_front room size =
      let offsets = offsets_of (cores_of table) in
      let many : length offsets ≡ length (cores_of table) = length-map (λ (x : Whole). x.at) (cores_of table) in
      let fits : 0 + length offsets ≤ length room = omega (arith, few_enabled table base rules_kept) in
      rw (enabled_count, taken_all table base rules_kept, sym many, sets-eq offsets room 0 fits) (take-append_seam offsets _)

  pub noted-standing : (room : List ℕ) → length room ≡ 256 → {n : ℕ} {after offsets : List ℕ} → n ≡ (walked table base sci pins).found.enabled
      → after ≡ noted table base room → offsets ≡ take n after → Standing table offsets
  noted-standing room size e f g = rw (g, e, f, noted_front room size) standing

-- ---- so nothing changes
module _ (table offsets : List ℕ) (s : Standing table offsets) where
  pub same_repeat : repeat_at table offsets ≡ first_repeat table
  unfolding repeat_at first_repeat
  same_repeat = rw (s.1, s.0)

  pub same_entries : numbers_of (processors_at table offsets) ≡ processors table
  unfolding processors
  same_entries = ap numbers_of s.1

  pub same_count : length offsets ≡ count table
  unfolding count
  same_count = ap length s.0 ∙ length-map (λ (x : Whole). x.at) (cores_of table)
