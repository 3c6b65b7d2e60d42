-- 39 is told exactly where the processor list repeats a UID or a physical ID, so that those of every list that comes back differ.
use Rattle.std.proofs.Common.{Option, Some, None}
use Rattle.std.proofs.lemmas.Option.{none-some, same_Some}
use Prim.Native.Nat.{ℕ, ◌+◌, ◌*◌, ◌<◌, ◌≤◌}
use native.Mathlib.Nat.{zero-add}
use native.Mathlib.Omega.{arith}
use mathlib.Core.Path.{◌≡◌, refl, sym, ap, ◌∙◌}
use mathlib.Core.Logic.{inl, inr, ⊎_elim}
use mathlib.Core.List.{List, ◌++◌}
use mathlib.Core.Bool.{Bool, true, false, true≢false}
use borrow.Author.Tests.{leb-true, leb-false}
use lib.Dec.{leb}
use lib.ListN.{length, get_or, get_or-append}
use Rattle.words.specs.Lists.{numbers_below}
use Rattle.words.specs.Refusals.{Verdict, refused, refused_with, first_refusal}
use Rattle.words.specs.declared.Refusal.{Refusal}
use Rattle.words.proofs.Searches.{search_found, search_none}
use Rattle.words.proofs.Those.{length-map}
use Rattle.words.proofs.Verdicts.{same_refusal, unless-refused, unless_sound, first-joined, joined_kept, both_sound}
use Rattle.capture.specs.Pairs.{pairs_of, pins_of}
use Rattle.tables.specs.Survey.{tables_of, survey_rules, survey}
use Rattle.tables.specs.declared.Strictness.{Strictness}
use Rattle.tables.specs.declared.Tables.{Tables}
use Rattle.tables.proofs.Inside.{Accepted as TablesInside, tables_inside, survey-is, survey-told as told-by}
use Rattle.madt.specs.Pieces.{Whole}
use Rattle.madt.specs.Walk.{walk_rules}
use Rattle.madt.proofs.Accepted.{walk_verdict}
use Rattle.words.specs.Rooms.{written}
use Rattle.processors.specs.Listing.{cores_of, listed, processors, count}
use Rattle.processors.specs.declared.Processor.{Processor}
use Rattle.processors.specs.Repeats.{repeats_id, first_repeating, first_repeat}
use Rattle.processors.proofs.Filling.{twice_all}
use Rattle.processors.proofs.Sharing.{shared, not_shared, at, repeats_some, repeats_none, uid_at, id_at}
use Rattle.map_promises.specs.Clashing.{OnePlace, Exactly}
use Rattle.reading.specs.Scan.{madt_bytes, turned_down, scan}
use Rattle.reading.specs.Reading.{madt_found}
use Rattle.reading.specs.declared.Scan.{Scan}
use Rattle.reading.proofs.Laws.{repeat_none, repeat_at, later_rules, scan-refused}
use Rattle.reading.proofs.Scanned.{found_verdict, scanned}
use Rattle.promises.specs.Readings.{madt_place}
use Rattle.promises.specs.Processors.{uid_of, id_of, Repeats, madt_of, KeepsTo38, Breaks39, NamesRepeat, ThirtyNineExactly, AllDiffer, AcceptedDiffer, ReadDiffer}
use Rattle.promises.proofs.Told.{Told, is_of_structures, is_from_40, is_to_30}
use Rattle.promises.proofs.TableRefusals.{stands, SurveyTold, survey-told}
use Rattle.promises.proofs.EveryRefusal.{rules_from_40, walk_of-told, after_39_told}
use Rattle.promises.proofs.RulesInOrder.{no_repeat as none-repeats}
use Rattle.promises.proofs.RefusedExactlyForSharing.{of_scan}
use Rattle.promises.proofs.WhyRead.{why_read}
use Rattle.std.specs.Prelude.{Result, Ok, Err}

not_before : (j k : ℕ) → (j < k → ⊥) → k ≤ j
not_before j k h = go (leb k j) refl
  where
    go : (b : Bool) → leb k j ≡ b → k ≤ j
    go true e = leb-true k j e
    go false e = absurd (h (leb-false k j e))

-- ---- the numbers of a MADT's processors
module _ (table : List ℕ) where
  abbrev cores : List Whole
  cores = cores_of table

  abbrev ps : List Processor
  ps = listed cores

  counted : length ps ≡ count table
  unfolding count
  counted = length-map _ cores

  uid_told : (k : ℕ) → uid_of (processors table) k ≡ (at ps k).uid
  unfolding processors
  uid_told k = uid_at ps k

  id_told : (k : ℕ) → id_of (processors table) k ≡ (at ps k).id
  unfolding processors
  id_told k = id_at ps k

  -- processor k repeats an ID, or not
  repeated : (k : ℕ) → k < length ps → repeats_id ps k ≡ true → Repeats (processors table) (count table) k
  repeated k l h =
      let some = repeats_some ps k l h in
      let i = some.0 in (
        omega (arith, counted, l),
        i,
        some.1,
        ⊎_elim (λ e. inl (uid_told i ∙ sym e ∙ sym (uid_told k))) (λ e. inr (id_told i ∙ sym e ∙ sym (id_told k))) (shared (at ps k) (at ps i) some.2),
      )

  not_repeated : (k : ℕ) → repeats_id ps k ≡ false → Repeats (processors table) (count table) k → ⊥
  not_repeated k h r =
      let i = r.1 in
      let differ = not_shared (at ps k) (at ps i) (repeats_none ps k (omega (arith, counted, r.0)) h i r.2) in
      ⊎_elim (λ e. differ.0 (sym (uid_told k) ∙ sym e ∙ uid_told i)) (λ e. differ.1 (sym (id_told k) ∙ sym e ∙ id_told i)) r.3

  -- what the search tells
  repeat_named : (base : ℕ) {offset : ℕ} → first_repeat table ≡ Some offset → NamesRepeat table base (base + offset)
  unfolding first_repeat first_repeating numbers_below
  repeat_named base {offset} h =
      let hit = search_found (repeats_id ps) _ None (Some offset) 0 (length ps) (length ps) (zero-add _) h (none-some offset) in
      record {
        k = hit.at;
        repeats = repeated hit.at hit.counted hit.taken;
        first = λ j r. not_before j hit.at (λ l. not_repeated j (hit.before j (omega arith) l) r);
        at = ap (λ (o : ℕ). base + o) (sym (same_Some _ _ hit.told));
      }

  no_repeat : first_repeat table ≡ None → (k : ℕ) → Repeats (processors table) (count table) k → ⊥
  unfolding first_repeat first_repeating numbers_below
  no_repeat h k r =
      not_repeated k
      (search_none (repeats_id ps) _ None None 0 (length ps) k h (λ i t e. none-some _ (sym e)) (omega arith) (omega (arith, counted, r.0)))
      r

  all_differ : first_repeat table ≡ None → AllDiffer (processors table) (count table)
  all_differ h =
      record { uids = λ i k less inside e. no_repeat h k (inside, i, less, inl e); ids = λ i k less inside e. no_repeat h k (inside, i, less, inr e) }

-- what stands in front of a list is all that its first processors are read from
front_differ : (numbers rest : List ℕ) (n : ℕ) → length numbers ≡ 2 * n → AllDiffer numbers n → AllDiffer (numbers ++ rest) n
front_differ numbers rest n long d =
    let front : (at : ℕ) → at < 2 * n → get_or (numbers ++ rest) at 0 ≡ get_or numbers at 0 = λ at l. get_or-append numbers rest 0 at (omega arith) in
    record {
      uids = λ i k less inside e. d.uids i k less inside (sym (front (2 * i) (omega arith)) ∙ e ∙ front (2 * k) (omega arith));
      ids = λ i k less inside e. d.ids i k less inside (sym (front (2 * i + 1) (omega arith)) ∙ e ∙ front (2 * k + 1) (omega arith));
    }

-- ---- of captures
module _ (strictness : Strictness) (capture : List ℕ) where
  abbrev Told39 : ℕ → ℕ → Type 0
  Told39 p q = (scan strictness capture).verdict ≡ Err (refused_with 39 p q)

  abbrev Due39 : ℕ → ℕ → Type 0
  Due39 p q = Breaks39 strictness capture × OnePlace (NamesRepeat (madt_of capture) (madt_place capture)) p q

  -- a refusal by another rule is not 39
  other : (own : ℕ → Bool) → own 39 ≡ false → {v : Verdict} → (scan strictness capture).verdict ≡ v → Told own capture v → (p q : ℕ) → Told39 p q → Due39 p q
  other own not39 e told p q h = absurd (true≢false (sym (rw (sym e ∙ h) at told).1 ∙ not39))

  module _ (tables : survey strictness capture ≡ Ok (tables_of capture)) where
    abbrev t : Tables
    t = tables_of capture

    abbrev structures : List Verdict
    structures = walk_rules (madt_of capture) (madt_place capture)

    inside : TablesInside capture t
    inside = tables_inside strictness capture t tables

    kept_to_38 : first_refusal structures ≡ Ok tt → KeepsTo38 strictness capture
    kept_to_38 sound = first-joined (survey_rules strictness capture) structures ∙ unless_sound _ _ _ (told-by strictness capture tables) ∙ sound

    -- what the rules of the structures tell, and what comes after them
    walk_refused : {r : Refusal} → first_refusal structures ≡ Err r → (scan strictness capture).verdict ≡ Err r
    walk_refused h = found_verdict strictness capture tables ∙ first-joined structures _ ∙ unless-refused _ _ _ h

    after_walk_lem : first_refusal structures ≡ Ok tt → (scan strictness capture).verdict ≡ first_refusal (later_rules capture t)
    after_walk_lem h = found_verdict strictness capture tables ∙ first-joined structures _ ∙ unless_sound _ _ _ h

    module _ (sound : first_refusal structures ≡ Ok tt) where
      repeat_refused : {offset : ℕ} → first_repeat (madt_of capture) ≡ Some offset → (scan strictness capture).verdict ≡ Err (refused 39 (madt_place capture + offset))
      unfolding first_refusal
      repeat_refused h = after_walk_lem sound ∙ unless-refused _ _ _ (repeat_at (madt_place capture) (first_repeat (madt_of capture)) h)

      after_39 : first_repeat (madt_of capture) ≡ None → (scan strictness capture).verdict ≡ first_refusal (rules_from_40 capture t)
      unfolding first_refusal
      after_39 h = after_walk_lem sound ∙ unless_sound _ _ _ (repeat_none (madt_place capture) (first_repeat (madt_of capture)) h)

      by_repeat : (r : Option ℕ) → first_repeat (madt_of capture) ≡ r → (p q : ℕ) → Told39 p q → Due39 p q
      by_repeat (Some offset) h p q told =
          let same : refused 39 (madt_place capture + offset) ≡ refused_with 39 p q = same_refusal (sym (repeat_refused h) ∙ told) in
          let named = repeat_named (madt_of capture) (madt_place capture) h in
          let place : madt_place capture + offset ≡ p = ap (λ (r : Refusal). r.place) same in
          ((kept_to_38 sound, named.k, named.repeats), (rw place at named, ap (λ (r : Refusal). r.second) (sym same)))
      by_repeat None h p q told =
          other is_from_40 refl (after_39 h)
          (after_39_told capture t inside (stands inside.madt (omega arith), stands inside.fadt (omega arith)) (walk_verdict _ _ _ _ ∙ sound)) p q told

    by_walk : (v : Verdict) → first_refusal structures ≡ v → (p q : ℕ) → Told39 p q → Due39 p q
    by_walk (Err r) h = other is_of_structures refl (walk_refused h) (rw (walk_verdict (madt_of capture) (madt_place capture) t.sci (pins_of (pairs_of capture)) ∙ h) at (walk_of-told capture t inside))
    by_walk (Ok tt) h = by_repeat h (first_repeat (madt_of capture)) refl

  -- told, so due
  by_survey : (s : Result Tables Refusal) → survey strictness capture ≡ s → SurveyTold capture s → (p q : ℕ) → Told39 p q → Due39 p q
  unfolding turned_down
  by_survey (Err r) e told = other is_to_30 refl (ap (λ (s : Scan). s.verdict) (scan-refused strictness capture e)) told
  by_survey (Ok t) e told = by_walk (e ∙ ap Ok (sym (survey-is strictness capture e))) _ refl

  -- due, so told
  when_due : Breaks39 strictness capture → (p : ℕ) × (q : ℕ) × Told39 p q
  unfolding survey
  when_due broken =
      let kept = joined_kept (survey_rules strictness capture) _ broken.0 in
      go (unless_sound Err _ _ kept.0) kept.1 (first_repeat (madt_of capture)) refl
    where
      go : survey strictness capture ≡ Ok (tables_of capture) → first_refusal (walk_rules (madt_of capture) (madt_place capture)) ≡ Ok tt
          → (r : Option ℕ) → first_repeat (madt_of capture) ≡ r → (p : ℕ) × (q : ℕ) × Told39 p q
      go tables sound (Some offset) h = (madt_place capture + offset, 0, repeat_refused tables sound h)
      go tables sound None h = absurd (no_repeat (madt_of capture) h broken.1 broken.2)

-- THE PROMISES
pub thirty_nine_exactly : (strictness : Strictness) (capture : List ℕ) → ThirtyNineExactly strictness capture
thirty_nine_exactly strictness capture =
    let exactly : Exactly (Told39 strictness capture) (Breaks39 strictness capture) (OnePlace (NamesRepeat (madt_of capture) (madt_place capture))) =
    (by_survey strictness capture (survey strictness capture) refl (survey-told strictness capture), when_due strictness capture) in
    record { scanned = exactly; read = λ list. of_scan strictness capture list 39 (omega arith) exactly }

pub accepted_differ : (strictness : Strictness) (capture : List ℕ) → AcceptedDiffer strictness capture
unfolding madt_found first_refusal
accepted_differ strictness capture h =
    let s = scanned strictness capture h in
    rw s.madt (all_differ (madt_bytes capture s.t.madt) (none-repeats _ _ (both_sound _ _ s.rules).0))

pub read_differ : (strictness : Strictness) (capture list : List ℕ) → ReadDiffer strictness capture list
unfolding written
read_differ strictness capture list n h =
    let why = why_read strictness capture list n h in
    let table = madt_found strictness capture in
    rw (why.after, ← why.counted) (front_differ (processors table) _ (count table) (twice_all table) (accepted_differ strictness capture why.accepted))
