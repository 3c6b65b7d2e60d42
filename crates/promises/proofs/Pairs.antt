-- 7 is told exactly where a pair breaks it, the map's bridges have the counts that the pairs give, and a version 1 capture gets the answers
-- that it got before.
use Rattle.std.proofs.Common.{Option, Some, None}
use Prim.Native.Nat.{ℕ, zero, suc, ◌+◌, ◌*◌, ◌<◌}
use native.Mathlib.Omega.{arith}
use mathlib.Core.Bool.{Bool, true, false, not, ◌&&◌, true≢false}
use mathlib.Core.List.{List, ◌∷◌, ◌++◌}
use mathlib.Core.Logic.{◌⊎◌, inl, inr, ⊎_elim}
use mathlib.Core.Path.{◌≡◌, refl, sym, ap, ◌∙◌}
use borrow.Author.Tests.{eqb-true, eqb-false, eq-eqb, ne_eqb, ltb-true, lt-ltb, not-true}
use lib.Dec.{eqb, ltb}
use Rattle.std.specs.Option.{is_some}
use lib.ListN.{length, take, get_or, length-take}
use lib.Seq.{get_or-take}
use Rattle.words.specs.Bytes.{byte_at}
use Rattle.words.specs.Lists.{numbers_below}
use Rattle.words.specs.Choice.{if}
use Rattle.words.specs.Refusals.{Verdict, refused, refused_with, rule, unless, first_refusal}
use Rattle.words.specs.declared.Refusal.{Refusal}
use Rattle.words.proofs.Searches.{search_found, search_none}
use Rattle.words.proofs.Tests.{both_left, both_right, fails}
use Rattle.words.proofs.Verdicts.{not_sound, same_refusal, unless-refused, unless_sound, first_kept, first-joined}
use Rattle.capture.specs.Fields.{version, segment_count, descriptor, segments}
use Rattle.capture.specs.Rules.{wrong_size, wrong_mark, wrong_version, wrong_count, wrong_total, segment_broken, segment_rules, container_rules, verdict}
use Rattle.capture.specs.Pairs.{pair_place, pair_at, no_pair, pairs_of, tells_of, told_of, pins_of, pair_broken, pair_rules}
use Rattle.capture.specs.declared.pairs.Pair.{Pair}
use Rattle.capture.proofs.Pins.{pins_in_range, four_pairs, empty_pairs, empty_kept, pairs_four, pairs_first, told_some, told_by, pair_heard, none_tells}
use Rattle.clashes.proofs.Logic.{or_cases, left_true, right_true, both_true}
use Rattle.capture.proofs.Laws.{segments-first}
use Rattle.tables.specs.Survey.{madt_of, xsdt_of, tables_from, tables_of, with_sci, madt_field_rules, rules_before_29, survey_rules, survey}
use Rattle.tables.specs.declared.Strictness.{Strictness}
use Rattle.tables.proofs.Inside.{survey-told, kept_inside, tables_inside}
use Rattle.tables.specs.declared.Tables.{Tables}
use Rattle.lines.specs.Says.{Said, says}
use Rattle.lines.specs.Rules.{no_input, ranges_kept, rules_to_45, rules_from_51, map_rules}
use Rattle.madt.specs.Walk.{walk_rules}
use Rattle.madt.proofs.Accepted.{walk_verdict}
use Rattle.processors.specs.Listing.{count}
use Rattle.processors.specs.Repeats.{first_repeat}
use Rattle.map_promises.specs.Sources.{bio_at}
use Rattle.map_promises.specs.Clashing.{OnePlace, Exactly}
use Rattle.map_promises.proofs.Bridges.{no_input_lem}
use Rattle.map_promises.proofs.Ranged.{lpc-fits}
use Rattle.map_promises.proofs.Verdicts.{rule_read, told_at}
use Rattle.map_promises.proofs.WalkKeepsBooks.{walk_counts, walk_keeps_books}
use Rattle.reading.specs.Scan.{madt_bytes, walk_of, turned_down, repeat_rule, processor_rule, scan}
use Rattle.reading.specs.declared.Scan.{Scan}
use Rattle.reading.proofs.Laws.{later_rules, scan-refused}
use Rattle.reading.proofs.Scanned.{scanned, found_verdict}
use Rattle.promises.specs.Pairs.{number_of, Gives, KeepsTo6, Wrong, WrongPair, FirstWrong, SevenExactly, AcceptedIsCounted, VersionOneAsBefore, HasPins}
use Rattle.promises.specs.Captures.{Accepted}
use Rattle.promises.proofs.Told.{is_of_tables, is_29_or_30, is_to_30, is_of_structures, is_after_30, is_not, told-not, not-told, joined-told}
use Rattle.promises.proofs.TableRefusals.{stands, rules_from_10, from_10_told, fields_told, survey-told as survey-numbers}
use Rattle.promises.proofs.EveryRefusal.{walk_of-told, after_30_told}
use Rattle.promises.proofs.Readings.{refused_before}
use Rattle.promises.proofs.RefusedExactlyForSharing.{of_scan}
use Rattle.std.specs.Prelude.{Result, Ok, Err}

-- ---- a pair by the capture's bytes
two_or_not : (capture : List ℕ) → (version capture ≡ 2) ⊎ (eqb (version capture) 2 ≡ false)
two_or_not capture = go (eqb (version capture) 2) refl
  where
    go : (b : Bool) → eqb (version capture) 2 ≡ b → (version capture ≡ 2) ⊎ (eqb (version capture) 2 ≡ false)
    go true e = inl (eqb-true _ _ e)
    go false e = inr e

abbrev pair_of : List ℕ → ℕ → Pair
pair_of capture k = get_or (pairs_of capture) k no_pair

-- of a version 2 capture it is what stands there
pair_there : (capture : List ℕ) → version capture ≡ 2 → (k : ℕ) → k < 4
    → pair_of capture k ≡ record { id = byte_at capture (18 + 2 * k); pins = number_of capture k }
unfolding pair_at
pair_there capture two zero l = rw (four_pairs capture (eq-eqb _ _ two))
pair_there capture two (suc zero) l = rw (four_pairs capture (eq-eqb _ _ two))
pair_there capture two (suc (suc zero)) l = rw (four_pairs capture (eq-eqb _ _ two))
pair_there capture two (suc (suc (suc zero))) l = rw (four_pairs capture (eq-eqb _ _ two))
pair_there capture two (suc (suc (suc (suc k)))) l = absurd (omega arith)

-- of any other it is empty
pair_empty : (capture : List ℕ) → eqb (version capture) 2 ≡ false → (k : ℕ) → (pair_of capture k).pins ≡ 0
pair_empty capture other zero = rw (empty_pairs capture other)
pair_empty capture other (suc zero) = rw (empty_pairs capture other)
pair_empty capture other (suc (suc zero)) = rw (empty_pairs capture other)
pair_empty capture other (suc (suc (suc zero))) = rw (empty_pairs capture other)
pair_empty capture other (suc (suc (suc (suc k)))) = rw (empty_pairs capture other)

-- it tells of a hardware ID exactly if it gives it
module _ (capture : List ℕ) (k id : ℕ) where
  gives_tells : Gives capture k id → tells_of id (pair_of capture k) ≡ true
  unfolding tells_of
  gives_tells g =
      rw (pair_there capture g.paired k g.counted, ne_eqb (number_of capture k) 0 (λ e. let f = g.full in omega arith), eq-eqb _ _ g.has)

  tells_gives : k < 4 → tells_of id (pair_of capture k) ≡ true → Gives capture k id
  unfolding tells_of
  tells_gives l t = ⊎_elim yes (λ other. absurd (eqb-false _ 0 (not-true _ (both_left _ (eqb (pair_of capture k).id id) t)) (pair_empty capture other k))) (two_or_not capture)
    where
      yes : version capture ≡ 2 → Gives capture k id
      yes two =
          let here : (not (eqb (number_of capture k) 0) && eqb (byte_at capture (18 + 2 * k)) id) ≡ true = rw (pair_there capture two k l) at t in
          record {
            paired = two;
            counted = l;
            has = eqb-true _ _ (both_right (not (eqb (number_of capture k) 0)) _ here);
            full = omega (arith, eqb-false (number_of capture k) 0 (not-true _ (both_left _ (eqb (byte_at capture (18 + 2 * k)) id) here)));
          }

-- ---- 7, of one pair
module _ (capture : List ℕ) (two : version capture ≡ 2) (k : ℕ) (l : k < 4) where
  abbrev earlier : List Pair
  earlier = take k (pairs_of capture)

  -- an earlier pair is among those before it
  at-earlier : (j : ℕ) → j < k → get_or earlier j no_pair ≡ pair_of capture j
  at-earlier j h = get_or-take k (pairs_of capture) j no_pair h

  few_earlier : length earlier ≡ k
  few_earlier = omega (arith, length-take k (pairs_of capture), pairs_four capture)

  -- a number over 64, in the pair or in the capture
  over : (64 < (pair_of capture k).pins → 64 < number_of capture k) × (64 < number_of capture k → 64 < (pair_of capture k).pins)
  over = ((λ n. rw (pair_there capture two k l) at n), λ n. rw (pair_there capture two k l) n)

  broken_wrong : pair_broken (pairs_of capture) k ≡ true → Wrong capture k
  unfolding pair_broken tells_of
  broken_wrong h = ⊎_elim (λ t. inl (over.0 (ltb-true 64 _ t))) twice (or_cases (ltb 64 (pair_of capture k).pins) _ h)
    where
      twice : (not (eqb (pair_of capture k).pins 0) && is_some (told_of (pair_of capture k).id (take k (pairs_of capture)))) ≡ true → Wrong capture k
      twice t =
          let id = (pair_of capture k).id in
          let full = both_left (not (eqb (pair_of capture k).pins 0)) (is_some (told_of id (take k (pairs_of capture)))) t in
          let told = both_right (not (eqb (pair_of capture k).pins 0)) (is_some (told_of id (take k (pairs_of capture)))) t in
          let w = told_some id (take k (pairs_of capture)) told in
          let before : w.0 < k = omega (arith, few_earlier, w.1) in
          let own : tells_of id (pair_of capture k) ≡ true = rw (full, eq-eqb id id refl) in
          inr (w.0, before, id, tells_gives capture w.0 id (omega arith) (ap (tells_of id) (sym (at-earlier w.0 before)) ∙ w.2), tells_gives capture k id l own)

  wrong_broken : Wrong capture k → pair_broken (pairs_of capture) k ≡ true
  unfolding pair_broken tells_of
  wrong_broken w = ⊎_elim (λ n. left_true (ltb 64 (pair_of capture k).pins) _ (lt-ltb 64 _ (over.1 n))) twice w
    where
      twice : (j : ℕ) × (j < k) × (id : ℕ) × Gives capture j id × Gives capture k id → pair_broken (pairs_of capture) k ≡ true
      twice v =
          let pair = pair_of capture k in
          let same : pair.id ≡ v.2 = ap (λ (p : Pair). p.id) (pair_there capture two k l) ∙ v.4.has in
          let tells : tells_of pair.id (get_or earlier v.0 no_pair) ≡ true = rw (same, at-earlier v.0 v.1) (gives_tells capture v.0 v.2 v.3) in
          let told = told_by pair.id earlier v.0 (omega (arith, few_earlier, v.1)) tells in
          let full = both_left (not (eqb pair.pins 0)) (eqb pair.id v.2) (gives_tells capture k v.2 v.4) in
          right_true (ltb 64 pair.pins) _ (both_true (not (eqb pair.pins 0)) _ full told)

-- ---- 7, of all pairs
-- of a version 2 capture it is the first wrong one's
pairs_refuse : (capture : List ℕ) (n p q : ℕ) → first_refusal (pair_rules capture) ≡ Err (refused_with n p q)
    → (n ≡ 7) × (q ≡ 0) × ((k : ℕ) × WrongPair capture k) × FirstWrong capture p
unfolding numbers_below
pairs_refuse capture n p q h = ⊎_elim yes (λ other. not_sound (sym h ∙ empty_kept capture other)) (two_or_not capture)
  where
    yes : version capture ≡ 2 → (n ≡ 7) × (q ≡ 0) × ((k : ℕ) × WrongPair capture k) × FirstWrong capture p
    yes two =
        let hit = search_found (pair_broken (pairs_of capture)) (λ (k : ℕ). Err (refused 7 (pair_place k))) (Ok tt) (Err (refused_with n p q)) 0 4 4
        (omega arith) (sym (pairs_first capture) ∙ h) (λ e. not_sound (sym e))
        in
        let same = same_refusal hit.told in
        let wrong : WrongPair capture hit.at =
        record { paired = two; counted = hit.counted; wrong = broken_wrong capture two hit.at hit.counted hit.taken }
        in (
          sym (ap (λ (r : Refusal). r.number) same),
          sym (ap (λ (r : Refusal). r.second) same),
          (hit.at, wrong),
          record {
            k = hit.at;
            here = wrong;
            before = λ j l w. true≢false (sym (wrong_broken capture two j w.counted w.wrong) ∙ hit.before j (omega arith) l);
            at = sym (ap (λ (r : Refusal). r.place) same);
          },
        )

-- and where one is wrong, they refuse
pairs_refused : (capture : List ℕ) (k : ℕ) → WrongPair capture k → (p : ℕ) × (first_refusal (pair_rules capture) ≡ Err (refused 7 p))
unfolding numbers_below
pairs_refused capture k w = go (first_refusal (pair_rules capture)) refl
  where
    go : (v : Verdict) → first_refusal (pair_rules capture) ≡ v → (p : ℕ) × (first_refusal (pair_rules capture) ≡ Err (refused 7 p))
    go (Ok tt) e =
        absurd
        (true≢false
        (sym (wrong_broken capture w.paired k w.counted w.wrong)
        ∙ search_none (pair_broken (pairs_of capture)) (λ (j : ℕ). Err (refused 7 (pair_place j))) (Ok tt) (Ok tt) 0 4 k
        (sym (pairs_first capture) ∙ e) (λ j t z. not_sound z) (omega arith) w.counted))
    go (Err r) e =
        let t = pairs_refuse capture r.number r.place r.second e in
        (r.place, e ∙ rw (t.0, t.1))

-- ---- 7 among all rules
-- a rule with another number is kept, and the refusal is a later one's
later_rule : (broken : Bool) (number place : ℕ) (later : List Verdict) {r : Refusal} → first_refusal (rule broken number place ∷ later) ≡ Err r
    → (number ≡ r.number → ⊥) → (broken ≡ false) × (first_refusal later ≡ Err r)
unfolding first_refusal unless if
later_rule true number place later h other = absurd (other (ap (λ (r : Refusal). r.number) (same_refusal h)))
later_rule false number place later h other = (refl, h)

-- 6 is not 7
segments_other : (capture : List ℕ) (r : Refusal) → first_refusal (segment_rules capture) ≡ Err r → r.number ≡ 7 → ⊥
unfolding segments numbers_below
segments_other capture r h seven =
    let hit = search_found (segment_broken capture) (λ (i : ℕ). Err (refused 6 (descriptor capture i))) (Ok tt) (Err r) 0 (segment_count capture) (segment_count capture)
    (omega arith) (sym (segments-first capture) ∙ h) (λ e. not_sound (sym e))
    in
    let six : 6 ≡ r.number = ap (λ (r : Refusal). r.number) (same_refusal hit.told) in
    omega arith

-- a capture that is refused with 7 keeps the rules before it
container_seven : (capture : List ℕ) (p q : ℕ) → verdict capture ≡ Err (refused_with 7 p q)
    → KeepsTo6 capture × (first_refusal (pair_rules capture) ≡ Err (refused_with 7 p q))
unfolding verdict container_rules
container_seven capture p q h =
    let a = later_rule _ 1 0 _ h (λ e. omega arith) in
    let b = later_rule _ 2 0 _ a.1 (λ e. omega arith) in
    let c = later_rule _ 3 0 _ b.1 (λ e. omega arith) in
    let d = later_rule _ 4 0 _ c.1 (λ e. omega arith) in
    let e = later_rule _ 5 0 _ d.1 (λ e. omega arith) in
    go a.0 b.0 c.0 d.0 e.0 e.1 (first_refusal (segment_rules capture)) refl
  where
    go : wrong_size capture ≡ false → wrong_mark capture ≡ false → wrong_version capture ≡ false → wrong_count capture ≡ false
        → wrong_total capture ≡ false → first_refusal (segment_rules capture ++ pair_rules capture) ≡ Err (refused_with 7 p q)
        → (v : Verdict) → first_refusal (segment_rules capture) ≡ v
        → KeepsTo6 capture × (first_refusal (pair_rules capture) ≡ Err (refused_with 7 p q))
    go r1 r2 r3 r4 r5 both (Ok tt) r6 =
        let pairs = sym (unless_sound Err _ _ r6) ∙ sym (first-joined (segment_rules capture) (pair_rules capture)) ∙ both in
        (record { r1 = r1; r2 = r2; r3 = r3; r4 = r4; r5 = r5; r6 = r6 }, pairs)
    go r1 r2 r3 r4 r5 both (Err r) e =
        let same = same_refusal (sym (unless-refused Err _ _ e) ∙ sym (first-joined (segment_rules capture) (pair_rules capture)) ∙ both) in
        absurd (segments_other capture r e (ap (λ (r : Refusal). r.number) same))

-- and one that keeps them and has a wrong pair is refused so
seven_container : (capture : List ℕ) (p : ℕ) → KeepsTo6 capture → first_refusal (pair_rules capture) ≡ Err (refused 7 p)
    → verdict capture ≡ Err (refused 7 p)
unfolding verdict container_rules
seven_container capture p k h =
    first_kept _ 1 _ _ k.r1
    (first_kept _ 2 _ _ k.r2
    (first_kept _ 3 _ _ k.r3
    (first_kept _ 4 _ _ k.r4
    (first_kept _ 5 _ _ k.r5
    (first-joined (segment_rules capture) (pair_rules capture) ∙ unless_sound Err _ _ k.r6 ∙ h)))))

module _ (strictness : Strictness) (capture : List ℕ) where
  -- a capture that is refused by 1 to 7 is refused so
  of_container : {r : Refusal} → verdict capture ≡ Err r → (scan strictness capture).verdict ≡ Err r
  unfolding verdict rules_before_29 turned_down
  of_container h =
      ap (λ (s : Scan). s.verdict) (refused_before strictness capture (first-joined (container_rules capture) _ ∙ unless-refused Err _ _ h))

  -- any other has no 7
  not_seven : verdict capture ≡ Ok tt → {r : Refusal} → (scan strictness capture).verdict ≡ Err r → r.number ≡ 7 → ⊥
  unfolding verdict rules_before_29 survey_rules turned_down tables_of tables_from with_sci
  not_seven sound {r} told seven = go (survey strictness capture) refl
    where
      go : (s : Result Tables Refusal) → survey strictness capture ≡ s → ⊥
      go (Err other) e =
          let same = same_refusal (ap (λ (s : Scan). s.verdict) (sym (scan-refused strictness capture e)) ∙ told) in
          let rules =
          joined-told (is_not 7) capture (rules_before_29 capture) _
          (joined-told (is_not 7) capture (container_rules capture) (rules_from_10 capture) (rw sound (omega arith))
          (λ z. told-not 7 is_of_tables refl capture (first_refusal (rules_from_10 capture)) (from_10_told capture sound)))
          (λ kept. told-not 7 is_29_or_30 refl capture (first_refusal (madt_field_rules strictness capture (madt_of capture (xsdt_of capture))))
          (fields_told strictness capture (madt_of capture (xsdt_of capture)) (stands (kept_inside capture kept).madt (omega arith))))
          in
          not-told 7 (is_not 7) refl capture rules (survey-told strictness capture e) (ap (λ (r : Refusal). r.number) same ∙ seven)
      go (Ok t) e =
          let i = tables_inside strictness capture t e in
          not-told 7 is_after_30 refl capture (after_30_told capture t i (stands i.madt (omega arith), stands i.fadt (omega arith)))
          (sym (found_verdict strictness capture e) ∙ told) seven

  scanned_seven : Exactly (λ p q. (scan strictness capture).verdict ≡ Err (refused_with 7 p q))
      (KeepsTo6 capture × ((k : ℕ) × WrongPair capture k)) (OnePlace (FirstWrong capture))
  scanned_seven = (
    (λ p q told. go p q told (verdict capture) refl),
    λ w.
        let r = pairs_refused capture w.1.0 w.1.1 in
        (r.0, 0, of_container (seven_container capture r.0 w.0 r.1)),
  )
    where
      go : (p q : ℕ) → (scan strictness capture).verdict ≡ Err (refused_with 7 p q) → (v : Verdict) → verdict capture ≡ v
          → (KeepsTo6 capture × ((k : ℕ) × WrongPair capture k)) × OnePlace (FirstWrong capture) p q
      go p q told (Ok tt) sound = absurd (not_seven sound told refl)
      go p q told (Err r) e =
          let same = same_refusal (sym (of_container e) ∙ told) in
          let c = container_seven capture p q (e ∙ ap Err same) in
          let t = pairs_refuse capture 7 p q c.1 in
          ((c.0, t.2), (t.3, t.1))

-- ---- the counts
-- of a capture that keeps 7, each pair that gives a hardware ID is heard
heard : (capture : List ℕ) → verdict capture ≡ Ok tt → (k id : ℕ) → Gives capture k id → pins_of (pairs_of capture) id ≡ number_of capture k
heard capture sound k id g =
    let there = pair_there capture g.paired k g.counted in
    let full : eqb (pair_of capture k).pins 0 ≡ false = rw there (ne_eqb (number_of capture k) 0 (λ e. let f = g.full in omega arith)) in
    rw (there, g.has) at (pair_heard capture sound k g.counted full)

-- and what none gives is 64
unheard : (capture : List ℕ) (id : ℕ) → ((k : ℕ) → Gives capture k id → ⊥) → pins_of (pairs_of capture) id ≡ 64
unheard capture id never = none_tells capture id (λ k l. fails _ (λ t. never k (tells_gives capture k id l t)))

-- one of the two
given_or_not : (capture : List ℕ) (id : ℕ) → ((k : ℕ) × Gives capture k id) ⊎ ((k : ℕ) → Gives capture k id → ⊥)
given_or_not capture id = go (is_some (told_of id (pairs_of capture))) refl
  where
    go : (b : Bool) → is_some (told_of id (pairs_of capture)) ≡ b → ((k : ℕ) × Gives capture k id) ⊎ ((k : ℕ) → Gives capture k id → ⊥)
    go true e =
        let w = told_some id (pairs_of capture) e in
        inl (w.0, tells_gives capture w.0 id (omega (arith, pairs_four capture, w.1)) w.2)
    go false e =
        inr
        (λ k g.
        true≢false
        (sym (told_by id (pairs_of capture) k (let l = g.counted in omega (arith, pairs_four capture)) (gives_tells capture k id g))
        ∙ e))

-- the map's bridges have them
of_pairs : (strictness : Strictness) (capture : List ℕ) → Accepted strictness capture
    → (verdict capture ≡ Ok tt)
    × ((j : ℕ) → let said = says (scan strictness capture).map in
    j < length said.bios → (bio_at said j).pins ≡ pins_of (pairs_of capture) (bio_at said j).node)
of_pairs strictness capture h =
    let s = scanned strictness capture h in
    ((tables_inside strictness capture s.t s.tables).sound, rw s.map (walk_counts _ _ _ _ s.walk))

-- ---- 45 in version 1
-- where every bridge has 64 inputs, the LPC has one
has_input : (said : Said) → ranges_kept said ≡ true → ((j : ℕ) → j < length said.bios → (bio_at said j).pins ≡ 64) → no_input said.lpc said.bios ≡ true → ⊥
has_input said ranged pins h = let w = no_input_lem said h in omega (arith, pins w.1 w.2, w.4, lpc-fits said ranged)

first_or_later : (v : Verdict) (later : List Verdict) {r : Refusal} → first_refusal (v ∷ later) ≡ Err r
    → (v ≡ Err r) ⊎ (first_refusal later ≡ Err r)
unfolding first_refusal unless
first_or_later (Ok tt) later h = inr h
first_or_later (Err s) later h = inl h

repeat_number : (base : ℕ) (r : Option ℕ) {refusal : Refusal} → repeat_rule base r ≡ Err refusal → 39 ≡ refusal.number
unfolding repeat_rule
repeat_number base None h = not_sound (sym h)
repeat_number base (Some offset) h = ap (λ (r : Refusal). r.number) (same_refusal h)

module _ (strictness : Strictness) (capture : List ℕ) (one : version capture ≡ 1) where
  given_none : (k id : ℕ) → Gives capture k id → ⊥
  given_none k id g = let two = g.paired in omega (arith, one, two)

  -- of the map that the walk found
  not_45_of_map : (t : Tables) → survey strictness capture ≡ Ok t → (walk_of capture t).verdict ≡ Ok tt → (p q : ℕ)
      → let found = (walk_of capture t).found in
      first_refusal (map_rules (says found.map) found.places t.madt.place t.fadt.place) ≡ Err (refused_with 45 p q) → ⊥
  unfolding map_rules rules_to_45 rules_from_51 if
  not_45_of_map t tables sound p q h =
      let found = (walk_of capture t).found in
      let said = says found.map in
      let kept = (walk_keeps_books _ _ _ _ (pins_in_range capture (tables_inside strictness capture t tables).sound) sound).0 in
      let broken = (rule_read (no_input said.lpc said.bios) 45 found.places.lpc 45 p q (told_at said found.places t.madt.place t.fadt.place 45 p q h).0).3 in
      has_input said kept.ranges (λ j l. walk_counts _ _ _ _ sound j l ∙ unheard capture _ (λ k g. given_none k _ g)) broken

  not_45 : (p q : ℕ) → (scan strictness capture).verdict ≡ Err (refused_with 45 p q) → ⊥
  unfolding turned_down processor_rule
  not_45 p q told = by_survey (survey strictness capture) refl
    where
      by_walk : (t : Tables) → survey strictness capture ≡ Ok t → (v : Verdict) → (walk_of capture t).verdict ≡ v
          → first_refusal (walk_rules (madt_bytes capture t.madt) t.madt.place ++ later_rules capture t) ≡ Err (refused_with 45 p q) → ⊥
      by_walk t e (Err r) w h =
          let same = same_refusal (sym (unless-refused Err _ _ (sym (walk_verdict _ _ _ _) ∙ w)) ∙ sym (first-joined (walk_rules (madt_bytes capture t.madt) t.madt.place) (later_rules capture t)) ∙ h) in
          not-told 45 is_of_structures refl capture (walk_of-told capture t (tables_inside strictness capture t e)) w (ap (λ (r : Refusal). r.number) same)
      by_walk t e (Ok tt) w h =
          let later = sym (unless_sound Err _ _ (sym (walk_verdict _ _ _ _) ∙ w)) ∙ sym (first-joined (walk_rules (madt_bytes capture t.madt) t.madt.place) (later_rules capture t)) ∙ h in
          ⊎_elim (λ z. let n = repeat_number t.madt.place (first_repeat (madt_bytes capture t.madt)) z in omega arith)
          (λ rest.
          ⊎_elim (λ z. let n = (rule_read (eqb (count (madt_bytes capture t.madt)) 0) 40 t.madt.place 45 p q z).0 in omega arith)
          (not_45_of_map t e w p q)
          (first_or_later _ _ rest))
          (first_or_later _ _ later)

      by_survey : (s : Result Tables Refusal) → survey strictness capture ≡ s → ⊥
      by_survey (Err r) e =
          let same = same_refusal (ap (λ (s : Scan). s.verdict) (sym (scan-refused strictness capture e)) ∙ told) in
          true≢false (sym (rw e at (survey-numbers strictness capture)).1 ∙ ap (λ (r : Refusal). is_to_30 r.number) same)
      by_survey (Ok t) e = by_walk t e (walk_of capture t).verdict refl (sym (found_verdict strictness capture e) ∙ told)

-- ---- two captures that have the same counts
pub has_pins : (capture : List ℕ) → verdict capture ≡ Ok tt → (id n : ℕ) → HasPins capture id n → pins_of (pairs_of capture) id ≡ n
has_pins capture sound id n h =
    ⊎_elim (λ w. heard capture sound w.0 id w.1 ∙ sym (h.told w.0 w.1)) (λ never. unheard capture id never ∙ sym (h.else64 never))
    (given_or_not capture id)

-- THE PROMISES
pub seven_exactly : (strictness : Strictness) (capture : List ℕ) → SevenExactly strictness capture
seven_exactly strictness capture =
    record { scanned = scanned_seven strictness capture; read = λ list. of_scan strictness capture list 7 (omega arith) (scanned_seven strictness capture) }

pub accepted_is_counted : (strictness : Strictness) (capture : List ℕ) → AcceptedIsCounted strictness capture
accepted_is_counted strictness capture h j l =
    let w = of_pairs strictness capture h in
    record { told = λ k g. w.1 j l ∙ heard capture w.0 k _ g; else64 = λ never. w.1 j l ∙ unheard capture _ never }

pub version_one_as_before : (strictness : Strictness) (capture : List ℕ) → VersionOneAsBefore strictness capture
version_one_as_before strictness capture one =
    record {
      pins = λ h j l. (accepted_is_counted strictness capture h j l).else64 (λ k g. given_none strictness capture one k _ g);
      no7 = λ p q told. let w = ((scanned_seven strictness capture).0 p q told).0.1.1.paired in omega (arith, one, w);
      no45 = not_45 strictness capture one;
    }
