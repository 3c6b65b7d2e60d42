-- Two captures of one board, wherever its tables lie: what is accepted gives equal maps, lists, answers and texts, and what is refused from 29
-- on is refused alike.
use Prim.Native.Nat.{ℕ, ◌+◌, ◌*◌, ◌≤◌}
use native.Mathlib.Omega.{arith}
use mathlib.Core.Bool.{not}
use mathlib.Core.List.{List, ◌++◌}
use mathlib.Core.Logic.{⊎_elim}
use mathlib.Core.Path.{◌≡◌, refl, sym, ap, ◌∙◌}
use lib.Dec.{eqb}
use lib.ListN.{take, drop}
use lib.Seq.{take_at, get_or-take, get_or-drop}
use Rattle.words.specs.Bytes.{byte_at, number_at, part_at}
use Rattle.words.specs.Refusals.{Verdict, unless, first_refusal}
use Rattle.words.specs.declared.Refusal.{Refusal}
use Rattle.words.proofs.Numbers.{number_take, number_drop}
use Rattle.words.proofs.Verdicts.{not_sound, unless-refused, unless_sound, first-joined, joined_kept}
use Rattle.capture.specs.Fields.{version}
use Rattle.capture.specs.Pairs.{pairs_of, pins_of}
use Rattle.tables.specs.Table.{revision}
use Rattle.tables.specs.Survey.{wrong_madt_revision, wrong_flags, madt_field_rules, sci_number, with_sci, tables_from, tables_of, rules_before_29, survey_rules, survey}
use Rattle.tables.specs.declared.Strictness.{Strictness}
use Rattle.tables.specs.declared.Strictness.TheVariants.{Ordinary, Strict}
use Rattle.tables.specs.declared.Table.{Table}
use Rattle.tables.specs.declared.Tables.{Tables}
use Rattle.tables.proofs.Inside.{survey-told, survey-is, kept_inside}
use Rattle.lines.specs.Answers.{route_of, trace_of, route_code, trace_code}
use Rattle.lines.specs.declared.Map.{Map}
use Rattle.madt.specs.Pieces.{pieces, structures}
use Rattle.madt.specs.Contents.{map_of, found_in}
use Rattle.madt.specs.Walk.{walk_rules, Walked, walked}
use Rattle.madt.specs.declared.Found.{Found}
use Rattle.madt.proofs.Accepted.{found_is}
use Rattle.processors.specs.Image.{image}
use Rattle.words.specs.Rooms.{written}
use Rattle.processors.specs.Listing.{processors, count}
use Rattle.processors.proofs.Filling.{twice_all}
use Rattle.processors.proofs.Image.{eight_each}
use Rattle.map_promises.proofs.OnlyItsBridges.{only_its_bridges}
use Rattle.reading.specs.Scan.{madt_bytes, walk_of, scan}
use Rattle.reading.specs.Reading.{without_map, madt_found, reading_of, list_after}
use Rattle.reading.specs.Entries.{read_result, bytes_after, route_result, trace_result}
use Rattle.reading.specs.declared.Reading.{Reading}
use Rattle.reading.proofs.Laws.{later_rules, after_walk_lem, in_two}
use Rattle.reading.proofs.Scanned.{scan-verdict, scanned, found_madt}
use Rattle.text.specs.Lines.{each}
use Rattle.text.specs.Text.{map_parts, map_text, text_of}
use Rattle.promises.specs.Calls.{HasRead}
use Rattle.promises.specs.Captures.{Accepted}
use Rattle.promises.specs.Processors.{madt_of}
use Rattle.promises.specs.Readings.{madt_place, madt_revision, KeepsTo28}
use Rattle.promises.specs.Moved.{sci_of, OneBoard, MapsStay, ListsStay, LongEnough, CEntriesStay, TextStays, MovedRefusal, Comparable, RefusedAlike}
use Rattle.promises.proofs.MovedRules.{AlikeAt, alike_told, more_alike, joined_alike, none_alike, at_start_alike, rules_alike}
use Rattle.promises.proofs.Pairs.{has_pins}
use Rattle.promises.proofs.ReadForC.{c_reading}
use Rattle.promises.proofs.WhyRead.{Why as WhyRead, why_read}
use Rattle.promises.proofs.WhyRefused.{why_refused}
use Rattle.std.specs.Prelude.{Ok, Err}

-- ---- what an accepted capture is found to hold, by its own tables
module _ (strictness : Strictness) (capture : List ℕ) (accepted : Accepted strictness capture) where
  tables_found : survey strictness capture ≡ Ok (tables_of capture)
  tables_found = let s = scanned strictness capture accepted in s.tables ∙ ap Ok (sym (survey-is strictness capture s.tables))

  keeps_28 : KeepsTo28 capture
  unfolding survey_rules
  keeps_28 = (joined_kept (rules_before_29 capture) _ (survey-told strictness capture tables_found)).0

  bytes_found : madt_found strictness capture ≡ madt_of capture
  bytes_found = found_madt strictness capture tables_found accepted

  walk_kept : (walk_of capture (tables_of capture)).verdict ≡ Ok tt
  walk_kept =
      let s = scanned strictness capture accepted in
      ap (λ (t : Tables). (walk_of capture t).verdict) (survey-is strictness capture s.tables) ∙ s.walk

  map-walked : (scan strictness capture).map ≡ (walk_of capture (tables_of capture)).found.map
  map-walked =
      let s = scanned strictness capture accepted in
      s.map ∙ ap (λ (t : Tables). (walk_of capture t).found.map) (sym (survey-is strictness capture s.tables))

  -- its map is that of the structures of its MADT
  map_found : (scan strictness capture).map ≡ map_of (tables_of capture).sci (pins_of (pairs_of capture)) (structures (pieces (madt_of capture) 44))
  unfolding found_in
  map_found = map-walked ∙ ap (λ (f : Found). f.map) (found_is _ _ _ _ walk_kept)

-- ---- what stands in the bytes of MADT and FADT, where no rule before 29 is broken
module _ (capture : List ℕ) (kept : KeepsTo28 capture) where
  number_there : (k : ℕ) (table : Table) (at : ℕ) → at + k ≤ table.length
      → number_at k (part_at capture table.place table.length) at ≡ number_at k capture (table.place + at)
  number_there k table at long = number_take k (drop table.place capture) table.length at long ∙ number_drop k capture table.place at

  revision_there : byte_at (madt_of capture) 8 ≡ madt_revision capture
  unfolding madt_bytes revision
  revision_there =
      let long = (kept_inside capture kept).madt.long in
      get_or-take (tables_of capture).madt.length (drop (madt_place capture) capture) 8 0 (omega arith) ∙ get_or-drop (madt_place capture) capture 8 0

  flags_there : number_at 4 (madt_of capture) 40 ≡ number_at 4 capture (madt_place capture + 40)
  unfolding madt_bytes
  flags_there = let long = (kept_inside capture kept).madt.long in number_there 4 (tables_of capture).madt 40 (omega arith)

  sci_there : sci_of capture ≡ (tables_of capture).sci
  unfolding tables_of tables_from with_sci sci_number
  sci_there = let long = (kept_inside capture kept).fadt.long in number_there 2 (tables_of capture).fadt 46 (omega arith)

-- ---- one board
module _ (capture other : List ℕ) (board : OneBoard capture other) (kept : KeepsTo28 capture) (kept' : KeepsTo28 other) where
  same_sci : (tables_of capture).sci ≡ (tables_of other).sci
  same_sci = sym (sci_there capture kept) ∙ board.sci ∙ sci_there other kept'

  -- wherever its MADT stands, the walk of it finds the same
  same_walk : (base : ℕ)
      → walked (madt_of capture) base (tables_of capture).sci (pins_of (pairs_of capture)) ≡ walked (madt_of other) base (tables_of other).sci (pins_of (pairs_of other))
  same_walk base =
      only_its_bridges (madt_of capture) base (tables_of capture).sci (pins_of (pairs_of capture)) (pins_of (pairs_of other))
      (λ before later x e b.
      let n = board.pins before later x e b in
      has_pins capture (kept_inside capture kept).sound _ n.0 n.1 ∙ sym (has_pins other (kept_inside other kept').sound _ n.0 n.2))
      ∙ (rw (board.madt, same_sci) refl)

module _ (this that : Strictness) (capture other : List ℕ) (board : OneBoard capture other) (accepted : Accepted this capture) (accepted' : Accepted that other) where
  same_map : (scan this capture).map ≡ (scan that other).map
  unfolding found_in
  same_map =
      let walk = same_walk capture other board (keeps_28 this capture accepted) (keeps_28 that other accepted') (madt_place capture) in
      map-walked this capture accepted
      ∙ ap (λ (w : Walked). w.found.map) walk
      ∙ ap (λ (f : Found). f.map) (found_is _ _ _ _ (ap (λ (w : Walked). w.verdict) (sym walk) ∙ walk_kept this capture accepted))
      ∙ sym (map_found that other accepted')

  same_table_lem : madt_found this capture ≡ madt_found that other
  same_table_lem = bytes_found this capture accepted ∙ board.madt ∙ sym (bytes_found that other accepted')

-- ---- what a reading that answers has written
in_front : (strictness : Strictness) (capture list : List ℕ) (n : ℕ) → WhyRead strictness capture list n
    → take (2 * n) (list_after strictness capture list) ≡ processors (madt_found strictness capture)
unfolding written
in_front strictness capture list n why =
    let table = madt_found strictness capture in
    ap (take (2 * n)) why.after ∙ take_at (processors table) _ (2 * n) (twice_all table ∙ ap (λ (k : ℕ). 2 * k) why.counted)

-- and so the C entry, where the list is long enough
module _ (capture list : List ℕ) (accepted : Accepted Strict capture) (long : LongEnough capture list) where
  has_read : HasRead capture list
  has_read =
      ⊎_elim (λ refused. not_sound (sym refused.broken ∙ accepted)) (⊎_elim (λ short. absurd (let less = short.short in omega arith)) (λ read. read)) (c_reading capture list)

  in_front_for_c : take (8 * read_result capture list) (bytes_after capture list) ≡ image (processors (madt_found Strict capture))
  in_front_for_c =
      let table = madt_found Strict capture in
      let n = read_result capture list in
      ap (take (8 * n)) has_read.bytes ∙ take_at (image (processors table)) _ (8 * n) (eight_each table ∙ ap (λ (k : ℕ). 8 * k) (sym has_read.result))

-- ---- from 29 on, where no rule before it is broken
module _ (strictness : Strictness) (capture : List ℕ) (kept : KeepsTo28 capture) where
  from_29 : let t = tables_of capture in
      (scan strictness capture).verdict ≡ first_refusal (madt_field_rules strictness capture t.madt ++ (walk_rules (madt_of capture) (madt_place capture) ++ later_rules capture t))
  unfolding survey_rules tables_of tables_from with_sci
  from_29 =
      let t = tables_of capture in
      let fields = madt_field_rules strictness capture t.madt in
      let rest = walk_rules (madt_of capture) (madt_place capture) ++ later_rules capture t in
      scan-verdict strictness capture
      ∙ ap first_refusal (in_two strictness capture ∙ ap (λ (vs : List Verdict). survey_rules strictness capture ++ vs) (after_walk_lem capture t))
      ∙ first-joined (survey_rules strictness capture) rest
      ∙ ap (λ (v : Verdict). unless Err v (first_refusal rest)) (first-joined (rules_before_29 capture) fields ∙ unless_sound Err _ _ kept)
      ∙ sym (first-joined fields rest)

agree_on_1 : (this that : Strictness) → wrong_madt_revision this 1 ≡ wrong_madt_revision that 1
unfolding wrong_madt_revision
agree_on_1 Ordinary Ordinary = refl
agree_on_1 Ordinary Strict = refl
agree_on_1 Strict Ordinary = refl
agree_on_1 Strict Strict = refl

module _ (this that : Strictness) (capture other : List ℕ) (board : OneBoard capture other) (kept : KeepsTo28 capture) (kept' : KeepsTo28 other)
    (comparable : Comparable this that capture) where
  abbrev here : Tables
  here = tables_of capture

  abbrev there : Tables
  there = tables_of other

  same_revision : wrong_madt_revision this (madt_revision capture) ≡ wrong_madt_revision that (madt_revision other)
  same_revision =
      ⊎_elim (λ e. ap (λ (s : Strictness). wrong_madt_revision s (madt_revision capture)) e) (λ one. rw one (agree_on_1 this that)) comparable
      ∙ ap (wrong_madt_revision that) (sym (revision_there capture kept) ∙ ap (λ (table : List ℕ). byte_at table 8) board.madt ∙ revision_there other kept')

  same_flags : wrong_flags capture here.madt ≡ wrong_flags other there.madt
  unfolding wrong_flags
  same_flags =
      ap (λ (n : ℕ). not (eqb n 0))
      (sym (flags_there capture kept) ∙ ap (λ (table : List ℕ). number_at 4 table 40) board.madt ∙ flags_there other kept')

  fields_alike : AlikeAt here there (first_refusal (madt_field_rules this capture here.madt)) (first_refusal (madt_field_rules that other there.madt))
  unfolding madt_field_rules
  fields_alike =
      rw (same_revision, same_flags)
      (more_alike here there _ _ _ _ (at_start_alike here there (wrong_madt_revision that (madt_revision other)) 29 (refl, refl))
      (λ y z. more_alike here there _ _ _ _ (at_start_alike here there (wrong_flags other there.madt) 30 (refl, refl)) (λ y z. none_alike here there)))

  later_alike : AlikeAt here there (first_refusal (walk_rules (madt_of capture) (madt_place capture) ++ later_rules capture here))
      (first_refusal (walk_rules (madt_of other) (madt_place other) ++ later_rules other there))
  later_alike =
      rw (same_walk capture other board kept kept' (madt_place capture), board.madt)
      (rules_alike here there (madt_of other) there.sci (pins_of (pairs_of other)))

  verdicts_alike : AlikeAt here there (scan this capture).verdict (scan that other).verdict
  verdicts_alike =
      rw (from_29 this capture kept, from_29 that other kept')
      (joined_alike here there (madt_field_rules this capture here.madt) (madt_field_rules that other there.madt) _ _ fields_alike (λ y z. later_alike))

  read_alike : (list room : List ℕ) (r : Refusal) → (reading_of this capture list).answer ≡ Err r → (r.number ≡ 60 → ⊥)
      → (q : Refusal) × ((reading_of that other room).answer ≡ Err q) × MovedRefusal here there r q
  unfolding reading_of without_map
  read_alike list room r h not60 =
      ⊎_elim (λ told. go told (scan that other).verdict refl) (λ w. absurd (not60 (ap (λ (r : Refusal). r.number) (sym w.1)))) (why_refused this capture list r h)
    where
      go : (scan this capture).verdict ≡ Err r → (v : Verdict) → (scan that other).verdict ≡ v
          → (q : Refusal) × ((reading_of that other room).answer ≡ Err q) × MovedRefusal here there r q
      go told (Ok tt) e = absurd (rw (told, e) at verdicts_alike)
      go told (Err q) e = (q, ap (λ (x : Reading). x.answer) (unless-refused without_map _ _ e), rw (told, e) at verdicts_alike)

-- THE PROMISES
pub maps_stay : (this that : Strictness) (capture other : List ℕ) → MapsStay this that capture other
maps_stay this that capture other board accepted accepted' =
    let map = same_map this that capture other board accepted accepted' in
    let table = same_table_lem this that capture other board accepted accepted' in
    record {
      map = map;
      list = ap processors table;
      count = ap count table;
      routes = λ number. ap (λ (m : Map). route_of m number) map;
      traces = λ vector number. ap (λ (m : Map). trace_of m vector number) map;
    }

pub lists_stay : (this that : Strictness) (capture other : List ℕ) → ListsStay this that capture other
lists_stay this that capture other board list room n m h h' =
    let here = why_read this capture list n h in
    let there = why_read that other room m h' in
    let same = maps_stay this that capture other board here.accepted there.accepted in
    record {
      count = sym here.counted ∙ same.count ∙ there.counted;
      map = here.map ∙ same.map ∙ sym there.map;
      written = in_front this capture list n here ∙ same.list ∙ sym (in_front that other room m there);
    }

pub c_entries_stay : (capture other : List ℕ) → CEntriesStay capture other
unfolding route_result trace_result
c_entries_stay capture other board accepted accepted' =
    let same = maps_stay Strict Strict capture other board accepted accepted' in
    record {
      routes = λ number. unless_sound _ _ _ accepted ∙ ap route_code (same.routes number) ∙ sym (unless_sound _ _ _ accepted');
      traces = λ vector number. unless_sound _ _ _ accepted ∙ ap trace_code (same.traces vector number) ∙ sym (unless_sound _ _ _ accepted');
      counts = λ list room long long'. (has_read capture list accepted long).result ∙ same.count ∙ sym (has_read other room accepted' long').result;
      bytes = λ list room long long'. in_front_for_c capture list accepted long ∙ ap image same.list ∙ sym (in_front_for_c other room accepted' long');
    }

pub text_stays : (capture other : List ℕ) → TextStays capture other
unfolding text_of map_text map_parts each
text_stays capture other board accepted accepted' =
    let same = maps_stay Strict Strict capture other board accepted accepted' in
    let there : text_of other ≡ map_text (version other) (processors (madt_found Strict capture)) (scan Strict capture).map =
    unless_sound _ _ _ accepted' ∙ (rw (same.list, same.map) refl) in
    record {
      lines = _;
      here = unless_sound _ _ _ accepted;
      there = there;
      whole = λ e. unless_sound _ _ _ accepted ∙ ap (λ (v : ℕ). map_text v (processors (madt_found Strict capture)) (scan Strict capture).map) e ∙ sym there;
    }

pub refused_alike : (this that : Strictness) (capture other : List ℕ) → RefusedAlike this that capture other
refused_alike this that capture other board kept kept' comparable =
    record {
      scanned = alike_told (tables_of capture) (tables_of other) _ _ (verdicts_alike this that capture other board kept kept' comparable);
      read = read_alike this that capture other board kept kept' comparable;
    }
