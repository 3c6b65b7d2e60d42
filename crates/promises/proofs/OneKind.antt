-- 34 is told exactly where the structures of the MADT are of both kinds, or two of them are HT, and at the first that makes them so.
use Prim.Native.Nat.{ℕ, ◌+◌}
use native.Mathlib.Omega.{arith}
use mathlib.Core.Path.{◌≡◌, refl, sym, ap, ◌∙◌}
use mathlib.Core.Logic.{inl, inr, ⊎_elim}
use mathlib.Core.List.{List, [], ◌∷◌, ◌++◌, append-nil, append_assoc}
use mathlib.Core.Bool.{Bool, true, false, ◌&&◌, ◌||◌, true≢false}
use borrow.Author.Tests.{eqb-true, eq-eqb, leb-true, le-leb}
use lib.Dec.{eqb, leb}
use lib.ListN.{length, length-append}
use Rattle.words.specs.Bytes.{byte_at}
use Rattle.words.specs.Choice.{if}
use Rattle.words.specs.Refusals.{Verdict, refused, refused_with, rule, unless, first_refusal}
use Rattle.words.specs.declared.Refusal.{Refusal}
use Rattle.words.proofs.Verdicts.{not_sound, same_refusal, first_sound, unless_sound, first-joined, joined_kept}
use Rattle.tables.specs.Survey.{survey, tables_of, survey_rules}
use Rattle.tables.specs.declared.Strictness.{Strictness}
use Rattle.tables.specs.declared.Tables.{Tables}
use Rattle.tables.proofs.Inside.{Accepted as TablesInside, tables_inside}
use Rattle.clashes.proofs.Logic.{and_left, and_right, or_cases, both_true, left_true, right_true}
use Rattle.madt.specs.Pieces.{Whole, pieces}
use Rattle.madt.specs.Rules.{is_type}
use Rattle.madt.specs.Contents.{how_many}
use Rattle.madt.specs.Walk.{rules_in_turn, gives_both, kind_rules, walk_rules}
use Rattle.map_promises.specs.Clashing.{OnePlace, Exactly}
use Rattle.reading.specs.Scan.{walk_of, turned_down, scan}
use Rattle.reading.specs.declared.Scan.{Scan}
use Rattle.reading.proofs.Laws.{bytes_small, later_rules, scan-refused}
use Rattle.reading.proofs.Scanned.{found_verdict}
use Rattle.promises.specs.OneKind.{structures_of, GivesBoth, Mixed, NamesMixed, KeepsTo38InTurn, Breaks34, ThirtyFourExactly}
use Rattle.promises.specs.Processors.{madt_of}
use Rattle.promises.specs.Readings.{madt_place}
use Rattle.tables.proofs.Inside.{survey-is, survey-told as told-by}
use Rattle.promises.proofs.Told.{Told, is_in_turn, is_to_30, is_after_38}
use Rattle.promises.proofs.TableRefusals.{stands, SurveyTold, survey-told}
use Rattle.promises.proofs.WalkRefusals.{turns_told}
use Rattle.promises.proofs.EveryRefusal.{rules-told}
use Rattle.promises.proofs.RefusedExactlyForSharing.{of_scan}
use Rattle.madt.proofs.Accepted.{walk_verdict}
use Rattle.std.specs.Prelude.{Result, Ok, Err}

-- ---- the test, and what it says
module _ (before : List Whole) (x : Whole) where
  abbrev ht : Bool
  ht = eqb (byte_at x.bytes 0) 19

  abbrev eio : Bool
  eio = eqb (byte_at x.bytes 0) 20

  abbrev hts : Bool
  hts = leb 1 (how_many 19 before)

  abbrev eios : Bool
  eios = leb 1 (how_many 20 before)

  both_is : gives_both before x.bytes ≡ true → GivesBoth before x
  unfolding gives_both is_type
  both_is h =
      ⊎_elim
      (λ a. inl (eqb-true _ _ (and_left ht (hts || eios) a), ⊎_elim (λ p. inl (leb-true 1 _ p)) (λ p. inr (leb-true 1 _ p)) (or_cases hts eios (and_right ht (hts || eios) a))))
      (λ a. inr (eqb-true _ _ (and_left eio hts a), leb-true 1 _ (and_right eio hts a)))
      (or_cases (ht && (hts || eios)) (eio && hts) h)

  is_both : GivesBoth before x → gives_both before x.bytes ≡ true
  unfolding gives_both is_type
  is_both (inl w) =
      left_true (ht && (hts || eios)) (eio && hts)
      (both_true ht (hts || eios) (eq-eqb _ _ w.0) (⊎_elim (λ p. left_true hts eios (le-leb 1 _ p)) (λ p. right_true hts eios (le-leb 1 _ p)) w.1))
  is_both (inr w) = right_true (ht && (hts || eios)) (eio && hts) (both_true eio hts (eq-eqb _ _ w.0) (le-leb 1 _ w.1))

-- ---- what 34 tells of some structures in turn
nothing_there : (m l : List Whole) (y : Whole) → [] ≡ m ++ (y ∷ l) → ⊥
nothing_there m l y e = let z : 0 ≡ length (m ++ (y ∷ l)) = ap length e in omega (arith, length-append m (y ∷ l))

record First (base : ℕ) (before all : List Whole) (r : Refusal) : Type 0 where
  mid : List Whole
  x : Whole
  later : List Whole
  stands : all ≡ mid ++ (x ∷ later)
  both : gives_both (before ++ mid) x.bytes ≡ true
  none : (m l : List Whole) (y : Whole) → mid ≡ m ++ (y ∷ l) → gives_both (before ++ m) y.bytes ≡ false
  told : refused 34 (base + x.at) ≡ r

-- One structure more in front, that makes nothing mixed: none does before the first that does.
none_in_front : (before : List Whole) (y : Whole) (f m l : List Whole) (z : Whole) → gives_both before y.bytes ≡ false → y ∷ f ≡ m ++ (z ∷ l)
    → ((m l : List Whole) (z : Whole) → f ≡ m ++ (z ∷ l) → gives_both ((before ++ (y ∷ [])) ++ m) z.bytes ≡ false)
    → gives_both (before ++ m) z.bytes ≡ false
none_in_front before y f [] l z kept e rest = let same : y ≡ z = cc in rw (append-nil before, ← same) kept
none_in_front before y f (a ∷ m) l z kept e rest =
    let same : y ≡ a = cc in
    let behind : f ≡ m ++ (z ∷ l) = cc in
    rw (← same, ← append_assoc before (y ∷ []) m) (rest m l z behind)

first_mixed : (base : ℕ) (before all : List Whole) {r : Refusal} → first_refusal (kind_rules base before all) ≡ Err r → First base before all r
unfolding kind_rules first_refusal unless if
first_mixed base before [] h = not_sound (sym h)
first_mixed base before (y ∷ ys) {r} h = go (gives_both before y.bytes) refl h (λ k. first_mixed base (before ++ (y ∷ [])) ys k)
  where
    go : (b : Bool) → gives_both before y.bytes ≡ b → unless Err (rule b 34 (base + y.at)) (first_refusal (kind_rules base (before ++ (y ∷ [])) ys)) ≡ Err r
        → (first_refusal (kind_rules base (before ++ (y ∷ [])) ys) ≡ Err r → First base (before ++ (y ∷ [])) ys r) → First base before (y ∷ ys) r
    go true e k later =
        record {
          mid = [];
          x = y;
          later = ys;
          stands = refl;
          both = rw append-nil e;
          none = λ m l z w. absurd (nothing_there m l z w);
          told = same_refusal k;
        }
    go false e k later =
        let w = later k in
        record {
          mid = y ∷ w.mid;
          x = w.x;
          later = w.later;
          stands = ap (λ (l : List Whole). y ∷ l) w.stands;
          both = rw (← append_assoc before (y ∷ []) w.mid) w.both;
          none = λ m l z q. none_in_front before y w.mid m l z e q w.none;
          told = w.told;
        }

none_mixed : (base : ℕ) (before all : List Whole) → first_refusal (kind_rules base before all) ≡ Ok tt
    → (m l : List Whole) (y : Whole) → all ≡ m ++ (y ∷ l) → gives_both (before ++ m) y.bytes ≡ false
unfolding kind_rules
none_mixed base before [] h m l y e = absurd (nothing_there m l y e)
none_mixed base before (z ∷ zs) h [] l y e = let same : z ≡ y = cc in rw (append-nil before, ← same) (first_sound _ _ _ _ h).0
none_mixed base before (z ∷ zs) h (a ∷ m) l y e =
    let same : z ≡ a = cc in
    let behind : zs ≡ m ++ (y ∷ l) = cc in
    rw (← same, ← append_assoc before (z ∷ []) m) (none_mixed base (before ++ (z ∷ [])) zs (first_sound _ _ _ _ h).1 m l y behind)

-- ---- of a capture
module _ (strictness : Strictness) (capture : List ℕ) where
  abbrev base : ℕ
  base = madt_place capture

  abbrev turns : List Verdict
  turns = rules_in_turn base [] (pieces (madt_of capture) 44)

  abbrev kinds : List Verdict
  kinds = kind_rules base [] (structures_of capture)

  abbrev Told34 : ℕ → ℕ → Type 0
  Told34 p q = (scan strictness capture).verdict ≡ Err (refused_with 34 p q)

  abbrev Due34 : ℕ → ℕ → Type 0
  Due34 p q = Breaks34 strictness capture × OnePlace (NamesMixed base (structures_of capture)) p q

  -- a refusal by another rule is not 34
  other : (own : ℕ → Bool) → own 34 ≡ false → {v : Verdict} → (scan strictness capture).verdict ≡ v → Told own capture v → (p q : ℕ) → Told34 p q → Due34 p q
  other own not34 e told p q h = absurd (true≢false (sym (rw (sym e ∙ h) at told).1 ∙ not34))

  module _ (tables : survey strictness capture ≡ Ok (tables_of capture)) where
    abbrev t : Tables
    t = tables_of capture

    inside : TablesInside capture t
    inside = tables_inside strictness capture t tables

    -- the verdict: of the structures in turn, of 34, and of what comes after them
    verdict-is : (scan strictness capture).verdict ≡ unless Err (unless Err (first_refusal turns) (first_refusal kinds)) (first_refusal (later_rules capture t))
    unfolding walk_rules
    verdict-is =
        found_verdict strictness capture tables ∙ first-joined (turns ++ kinds) _
        ∙ ap (λ (v : Verdict). unless Err v (first_refusal (later_rules capture t))) (first-joined turns kinds)

    turns_refused : {r : Refusal} → first_refusal turns ≡ Err r → (scan strictness capture).verdict ≡ Err r
    unfolding unless
    turns_refused h = verdict-is ∙ rw h

    module _ (sound : first_refusal turns ≡ Ok tt) where
      kinds_refused : {r : Refusal} → first_refusal kinds ≡ Err r → (scan strictness capture).verdict ≡ Err r
      unfolding unless
      kinds_refused h = verdict-is ∙ rw (sound, h)

      after_34 : first_refusal kinds ≡ Ok tt → (scan strictness capture).verdict ≡ first_refusal (later_rules capture t)
      unfolding unless
      after_34 h = verdict-is ∙ rw (sound, h)

      kept_in_turn : KeepsTo38InTurn strictness capture
      kept_in_turn = first-joined (survey_rules strictness capture) turns ∙ unless_sound _ _ _ (told-by strictness capture tables) ∙ sound

      named : {r : Refusal} → first_refusal kinds ≡ Err r → Breaks34 strictness capture × NamesMixed base (structures_of capture) r.place
      named h =
          let f = first_mixed base [] (structures_of capture) h in
          let m : Mixed (structures_of capture) = record { before = f.mid; x = f.x; later = f.later; stands = f.stands; both = both_is f.mid f.x f.both } in (
            (kept_in_turn, m),
            record {
              mixed = m;
              first = λ b l y e w. true≢false (sym (is_both b y w) ∙ f.none b l y e);
              at = ap (λ (r : Refusal). r.place) (sym f.told);
            },
          )

      walk_sound : first_refusal kinds ≡ Ok tt → (walk_of capture t).verdict ≡ Ok tt
      unfolding walk_rules
      walk_sound h = walk_verdict _ _ _ _ ∙ first-joined turns kinds ∙ unless_sound _ _ _ sound ∙ h

      by_kinds : (v : Verdict) → first_refusal kinds ≡ v → (p q : ℕ) → Told34 p q → Due34 p q
      by_kinds (Err r) h p q told =
          let same : r ≡ refused_with 34 p q = same_refusal (sym (kinds_refused h) ∙ told) in
          let f = first_mixed base [] (structures_of capture) h in
          let w = named h in
          let place : r.place ≡ p = ap (λ (r : Refusal). r.place) same in
          let second : q ≡ 0 = ap (λ (r : Refusal). r.second) (sym same ∙ sym f.told) in
          (w.0, (rw place at w.1, second))
      by_kinds (Ok tt) h p q told =
          other is_after_38 refl (after_34 h)
          (rules-told capture t inside (stands inside.madt (omega arith), stands inside.fadt (omega arith)) (walk_sound h)) p q told

    by_turns : (v : Verdict) → first_refusal turns ≡ v → (p q : ℕ) → Told34 p q → Due34 p q
    by_turns (Err r) h =
        other is_in_turn refl (turns_refused h)
        (rw h at (turns_told capture base t.madt.length inside.madt.inside (madt_of capture) inside.madt.long (bytes_small capture t.madt)))
    by_turns (Ok tt) h = by_kinds h (first_refusal kinds) refl

  -- told, so due
  by_survey : (s : Result Tables Refusal) → survey strictness capture ≡ s → SurveyTold capture s → (p q : ℕ) → Told34 p q → Due34 p q
  unfolding turned_down
  by_survey (Err r) e told = other is_to_30 refl (ap (λ (s : Scan). s.verdict) (scan-refused strictness capture e)) told
  by_survey (Ok t) e told = by_turns (e ∙ ap Ok (sym (survey-is strictness capture e))) _ refl

  -- due, so told
  when_due : Breaks34 strictness capture → (p : ℕ) × (q : ℕ) × Told34 p q
  unfolding survey
  when_due broken =
      let kept = joined_kept (survey_rules strictness capture) _ broken.0 in
      go (unless_sound Err _ _ kept.0) kept.1 (first_refusal kinds) refl
    where
      go : survey strictness capture ≡ Ok (tables_of capture) → first_refusal turns ≡ Ok tt
          → (v : Verdict) → first_refusal kinds ≡ v → (p : ℕ) × (q : ℕ) × Told34 p q
      go tables sound (Err r) h =
          let f = first_mixed base [] (structures_of capture) h in
          (base + f.x.at, 0, kinds_refused tables sound h ∙ ap Err (sym f.told))
      go tables sound (Ok tt) h =
          let m = broken.1 in
          absurd (true≢false (sym (is_both m.before m.x m.both) ∙ none_mixed base [] (structures_of capture) h m.before m.later m.x m.stands))

-- THE PROMISE
pub thirty_four_exactly : (strictness : Strictness) (capture : List ℕ) → ThirtyFourExactly strictness capture
thirty_four_exactly strictness capture =
    let exactly : Exactly (Told34 strictness capture) (Breaks34 strictness capture) (OnePlace (NamesMixed (madt_place capture) (structures_of capture))) =
    (by_survey strictness capture (survey strictness capture) refl (survey-told strictness capture), when_due strictness capture) in
    record { scanned = exactly; read = λ list. of_scan strictness capture list 34 (omega arith) exactly }
