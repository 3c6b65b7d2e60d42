-- The walk: what its loop has found so far, and one law for each way that a turn of it can go.
use mathlib.Core.Path.{◌≡◌, refl, sym, ap, ◌∙◌}
use mathlib.Core.Bool.{Bool, true, false, ◌||◌, or-false}
use mathlib.Core.List.{List, [], ◌∷◌, ◌++◌, append-nil, append_assoc}
use Prim.Native.Nat.{ℕ, ◌+◌, ◌≤◌, ◌<◌}
use native.Mathlib.Omega.{arith}
use lib.Dec.{leb}
use lib.ListN.{length, set, drop, length-take}
use lib.Seq.{sets}
use Rattle.words.specs.Bytes.{byte_at, part_at}
use Rattle.words.specs.Lists.{those}
use Rattle.words.specs.Choice.{if}
use Rattle.words.specs.Refusals.{Verdict, refused, rule, unless, first_refusal}
use Rattle.words.specs.declared.Refusal.{Refusal}
use Rattle.words.proofs.Rooms.{sets_append}
use Rattle.words.proofs.Tests.{both_left}
use Rattle.words.proofs.Those.{those_narrower, map_more, length-map}
use Rattle.words.proofs.Verdicts.{first_broken_lem, unless-refused, unless_sound, unless_last, first_alone, first-joined, joined-refused, joined_sound, unless-joined}
use Rattle.lines.specs.declared.Map.{Map}
use Rattle.lines.specs.declared.Places.{Places}
use Rattle.madt.specs.Pieces.{Piece, whole, cut, Whole, pieces, structures}
use Rattle.madt.specs.Rules.{is_type, structure_rules}
use Rattle.madt.specs.Contents.{of_type, how_many, map_of, places_of, MadeBy, is_enabled_core, enabled_cores, offsets_of, found_in}
use Rattle.madt.specs.Walk.{rules_in_turn, gives_both, kind_rules, walk_rules}
use Rattle.madt.specs.AsAnswered.{walk}
use Rattle.madt.specs.Noting.{taken_in_turn, taken, noted}
use Rattle.madt.specs.Taken.{held, HasRoom, Taken}
use Rattle.madt.specs.declared.walk.Walk.{Walk}
use Rattle.madt.specs.declared.Found.{Found}
use Rattle.madt.proofs.Pieces.{size_at, pieces_end, pieces_cut, pieces_next}
use Rattle.madt.proofs.Types.{type_yes, type_no}
use Rattle.madt.proofs.Contents.{Parts, map_of_lem, places_of_lem, ht_there, eios_counted, enabled_same, enabled_more}
use Rattle.madt.proofs.Checks.{Kept, all_kept, room_core, room_eio, room_msi, room_bio}
use Rattle.std.specs.Prelude.{Some, None, Result, Ok, Err}

-- what the walk answers
abbrev Answer : Type 0
Answer = Result Found Refusal

-- what comes of some structures where the rules in turn refuse nothing: 34, or what they make
unfoldable pub judged : ℕ → ℕ → (ℕ → ℕ) → List Whole → Answer
judged base sci pins all = unless Err (first_refusal (kind_rules base [] all)) (Ok (found_in base sci pins all))

-- what comes of some pieces after the structures before them
unfoldable pub walk_from : ℕ → ℕ → (ℕ → ℕ) → List Whole → List Piece → Answer
walk_from base sci pins before pieces = unless Err (first_refusal (rules_in_turn base before pieces)) (judged base sci pins (before ++ structures pieces))

-- from the first piece on it is the walk
from_start : (table : List ℕ) (base sci : ℕ) (pins : ℕ → ℕ) → walk_from base sci pins [] (pieces table 44) ≡ walk table base sci pins
unfolding walk_from walk walk_rules judged
from_start table base sci pins = sym (unless-joined Err (rules_in_turn base [] (pieces table 44)) _ _)

-- the structures in turn: a whole one is refused, or stands before those behind it
module _ (base sci : ℕ) (pins : ℕ → ℕ) (before : List Whole) (at : ℕ) (s : List ℕ) (later : List Piece) where
  abbrev rules : List Verdict
  rules = structure_rules (base + at) (how_many (byte_at s 0) before) s

  from_refused : {refusal : Refusal} → first_refusal rules ≡ Err refusal → walk_from base sci pins before (whole at s ∷ later) ≡ Err refusal
  unfolding walk_from rules_in_turn
  from_refused h = joined-refused Err rules _ _ h

  from_next : first_refusal rules ≡ Ok tt → walk_from base sci pins before (whole at s ∷ later) ≡ walk_from base sci pins (before ++ (record { at = at; bytes = s } ∷ [])) later
  unfolding walk_from rules_in_turn structures
  from_next h = rw append_assoc (joined_sound Err rules _ _ h)

  -- and likewise those that are taken
  abbrev one : List Whole
  one = record { at = at; bytes = s } ∷ []

  taken_refused : {refusal : Refusal} → first_refusal rules ≡ Err refusal → before ++ taken_in_turn base before (whole at s ∷ later) ≡ before
  unfolding taken_in_turn
  taken_refused h = rw (unless-refused (λ refusal. []) _ _ h) (append-nil before)

  taken_next : first_refusal rules ≡ Ok tt → before ++ taken_in_turn base before (whole at s ∷ later) ≡ (before ++ one) ++ taken_in_turn base (before ++ one) later
  unfolding taken_in_turn
  taken_next h = rw (unless_sound (λ refusal. []) _ _ h) (sym (append_assoc before one _))

-- no piece is left
from_end : (base sci : ℕ) (pins : ℕ → ℕ) (before : List Whole) → walk_from base sci pins before [] ≡ judged base sci pins before
unfolding walk_from rules_in_turn structures first_refusal unless
from_end base sci pins before = rw append-nil

taken_end : (base : ℕ) (before : List Whole) → before ++ taken_in_turn base before [] ≡ before
unfolding taken_in_turn
taken_end base before = append-nil before

-- the last is cut
from_cut : (base sci : ℕ) (pins : ℕ → ℕ) (before : List Whole) (at : ℕ) → walk_from base sci pins before (cut at ∷ []) ≡ Err (refused 31 (base + at))
unfolding walk_from rules_in_turn
from_cut base sci pins before at = unless-refused Err _ _ (first_broken_lem true 31 (base + at) [] refl)

taken_cut : (base : ℕ) (before : List Whole) (at : ℕ) → before ++ taken_in_turn base before (cut at ∷ []) ≡ before
unfolding taken_in_turn
taken_cut base before at = append-nil before

-- ---- 34: one structure more
-- what is said of some structures and of one behind them
kinds_listed : (base : ℕ) (before all : List Whole) (x : Whole)
    → kind_rules base before (all ++ (x ∷ [])) ≡ kind_rules base before all ++ (rule (gives_both (before ++ all) x.bytes) 34 (base + x.at) ∷ [])
unfolding kind_rules
kinds_listed base before [] x = rw append-nil
kinds_listed base before (y ∷ all) x =
    ap (λ (l : List Verdict). rule (gives_both before y.bytes) 34 (base + y.at) ∷ l)
    (rw (append_assoc before (y ∷ []) all) at (kinds_listed base (before ++ (y ∷ [])) all x))

kinds_joined : (base : ℕ) (all : List Whole) (x : Whole)
    → first_refusal (kind_rules base [] (all ++ (x ∷ [])))
    ≡ unless Err (first_refusal (kind_rules base [] all)) (rule (gives_both all x.bytes) 34 (base + x.at))
kinds_joined base all x =
    ap first_refusal (kinds_listed base [] all x) ∙ first-joined (kind_rules base [] all) _ ∙ ap (unless Err _) (first_alone _)

module _ (base : ℕ) (all : List Whole) (x : Whole) {mixed : Verdict} (m : mixed ≡ first_refusal (kind_rules base [] all)) where
  abbrev s : List ℕ
  s = x.bytes

  -- one that is asked about by what the map has
  pub kinds_more : {both : Bool} → both ≡ gives_both all s → unless Err mixed (rule both 34 (base + x.at)) ≡ first_refusal (kind_rules base [] (all ++ (x ∷ [])))
  kinds_more e = rw (m, e) (sym (kinds_joined base all x))

  -- one that is neither HT nor EIO
  pub kinds_same : is_type 19 s ≡ false → is_type 20 s ≡ false → mixed ≡ first_refusal (kind_rules base [] (all ++ (x ∷ [])))
  unfolding gives_both if
  kinds_same h e = rw (kinds_joined base all x, h, e, m) (sym (unless_last _))

-- what the map tells of an HT, and of an EIO
module _ (s : List ℕ) (pins : ℕ → ℕ) (all : List Whole) {cores : ℕ} {m : Map} (by : MadeBy pins all cores m) where
  pub both_at_ht : byte_at s 0 ≡ 19 → (m.ht.present || leb 1 m.eiocount) ≡ gives_both all s
  unfolding gives_both
  both_at_ht t =
      rw (type_yes 19 s t, type_no 20 s (λ h. omega arith), ht_there s pins all by, eios_counted s pins all by) (sym (or-false _))

  pub both_at_eio : byte_at s 0 ≡ 20 → m.ht.present ≡ gives_both all s
  unfolding gives_both
  both_at_eio t = rw (type_no 19 s (λ h. omega arith), type_yes 20 s t, ht_there s pins all by)

-- what some structures make, by its parts: behind none of them, or one more
module _ (base sci : ℕ) (pins : ℕ → ℕ) (room : List ℕ) (all : List Whole) where
  pub parts : Parts base sci pins all (map_of sci pins all) (places_of base all)
  unfolding map_of places_of
  parts =
      record {
        lio = record { held = refl; stands = refl };
        ht = record { held = refl; stands = refl };
        eios = record { counted = refl; held = refl; stands = refl };
        bios = record { counted = refl; held = refl; stands = refl };
        msis = record { counted = refl; held = refl; stands = refl };
        lpc = record { held = refl; stands = refl };
        number = refl;
      }

  pub taken_lem : {map : Map} {places : Places} {enabled cores : ℕ} {mixed : Verdict} {offsets : List ℕ} → Parts base sci pins all map places
      → enabled ≡ length (enabled_cores all) → cores ≡ how_many 17 all → mixed ≡ first_refusal (kind_rules base [] all)
      → offsets ≡ sets room 0 (offsets_of (enabled_cores all))
      → Taken base sci pins room all (record { base = base; found = record { map = map; places = places; enabled = enabled }; cores = cores; mixed = mixed }) offsets
  unfolding held found_in
  taken_lem p e c m o = (rw (map_of_lem p, places_of_lem p, e, c, m), o)

  pub made_by : MadeBy pins all (how_many 17 all) (map_of sci pins all)
  unfolding map_of
  made_by = (refl, refl)

-- a room in whose front it is noted where the enabled CORE of some structures stand
abbrev pub Noting : List Whole → List ℕ → List ℕ → Type 0
Noting all room offsets = offsets ≡ sets room 0 (offsets_of (enabled_cores all))

module _ (all : List Whole) (room : List ℕ) (x : Whole) {offsets : List ℕ} (n : Noting all room offsets) where
  -- one structure more that is none of them, or is one
  pub noting_same : is_enabled_core x.bytes ≡ false → Noting (all ++ (x ∷ [])) room offsets
  noting_same h = rw (enabled_same all x h) n

  pub noting_more : {enabled at : ℕ} → is_enabled_core x.bytes ≡ true → enabled ≡ length (enabled_cores all) → at ≡ x.at
      → Noting (all ++ (x ∷ [])) room (set offsets enabled at)
  noting_more h e a =
      let behind : 0 + length (offsets_of (enabled_cores all)) ≡ length (enabled_cores all) = omega (arith, length-map (λ (y : Whole). y.at) (enabled_cores all)) in
      rw (enabled_more all x h, map_more (λ (y : Whole). y.at) (enabled_cores all) x, sets_append room 0 _ (x.at ∷ []), behind, n, e, a)

-- no more CORE are enabled than there are
enabled_few : (all : List Whole) → length (enabled_cores all) ≤ how_many 17 all
unfolding enabled_cores of_type is_enabled_core
enabled_few all = those_narrower (λ (x : Whole). is_enabled_core x.bytes) (λ (x : Whole). is_type 17 x.bytes) (λ x h. both_left _ _ h) all

-- ---- what the loop has found before the structure at an offset
pub record Walking (table : List ℕ) (base sci : ℕ) (pins : ℕ → ℕ) (room offsets : List ℕ) (walks : Walk) (at : ℕ) : Type 0 where
  pub all : List Whole
  pub has : Taken base sci pins room all walks offsets
  pub rest : walk_from base sci pins all (pieces table at) ≡ walk table base sci pins
  pub taking : all ++ taken_in_turn base all (pieces table at) ≡ taken table base

pub walk_starts : (table : List ℕ) (base sci : ℕ) (pins : ℕ → ℕ) (room : List ℕ) {walks : Walk} → walks ≡ held base sci pins []
    → Walking table base sci pins room room walks 44
unfolding taken enabled_cores those
walk_starts table base sci pins room h = record { all = []; has = (h, refl); rest = from_start table base sci pins; taking = refl }

module _ {table : List ℕ} {base sci : ℕ} {pins : ℕ → ℕ} {room offsets : List ℕ} {walks : Walk} {at : ℕ}
    (w : Walking table base sci pins room offsets walks at) where
  -- what is noted when no more is taken
  over : w.all ++ taken_in_turn base w.all (pieces table at) ≡ w.all → offsets ≡ noted table base room
  unfolding noted
  over h = w.has.1 ∙ ap (λ (all : List Whole). sets room 0 (offsets_of (enabled_cores all))) (sym h ∙ w.taking)

  -- the table's end: 34 is kept, or refuses
  ends : length table ≤ at → judged base sci pins w.all ≡ walk table base sci pins
  ends h = sym (rw (pieces_end table at h) (from_end base sci pins w.all)) ∙ w.rest

  pub walk_ends : length table ≤ at → walks.mixed ≡ Ok tt → (Ok walks.found ≡ walk table base sci pins) × (offsets ≡ noted table base room)
  unfolding judged held
  walk_ends h kept =
      let sound = rw w.has.0 at kept in
      (rw w.has.0 (sym (unless_sound Err _ _ sound) ∙ ends h), over (rw (pieces_end table at h) (taken_end base w.all)))

  pub walk_mixes : length table ≤ at → {refusal : Refusal} → walks.mixed ≡ Err refusal
      → (Err refusal ≡ walk table base sci pins) × (offsets ≡ noted table base room)
  unfolding judged held
  walk_mixes h broken =
      (sym (unless-refused Err _ _ (rw w.has.0 at broken)) ∙ ends h, over (rw (pieces_end table at h) (taken_end base w.all)))

  -- a structure that is cut
  pub walk_cuts : at < length table → size_at table at ≡ None → (Err (refused 31 (base + at)) ≡ walk table base sci pins) × (offsets ≡ noted table base room)
  walk_cuts more h =
      (sym (rw (pieces_cut table at more h) (from_cut base sci pins w.all at)) ∙ w.rest, over (rw (pieces_cut table at more h) (taken_cut base w.all at)))

  -- a structure, by what its rules are answered to say behind the map so far
  module _ (s : List ℕ) {answer : Verdict}
      (ask : (pins : ℕ → ℕ) (all : List Whole) → MadeBy pins all walks.cores walks.found.map → answer ≡ first_refusal (structure_rules (base + at) (how_many (byte_at s 0) all) s)) where
    abbrev here : Whole
    here = record { at = at; bytes = s }

    abbrev own : Verdict
    own = first_refusal (structure_rules (base + at) (how_many (byte_at s 0) w.all) s)

    said : answer ≡ own
    unfolding held found_in
    said = ask pins w.all (rw w.has.0 (made_by base sci pins room w.all))

    -- the table's next piece is that structure
    abbrev Next : ℕ → Type 0
    Next size = (size_at table at ≡ Some size) × (s ≡ part_at table at size)

    next : {size : ℕ} → Next size → pieces table at ≡ whole at s ∷ pieces table (at + size)
    next n = rw n.1 (pieces_next table at n.0)

    -- one that breaks a rule
    pub walk_refuses : {size : ℕ} → Next size → {refusal : Refusal} → answer ≡ Err refusal → (Err refusal ≡ walk table base sci pins) × (offsets ≡ noted table base room)
    walk_refuses n h =
        let h = sym said ∙ h in
        (sym (rw (next n) (from_refused base sci pins w.all at s _ h)) ∙ w.rest, over (rw (next n) (taken_refused base sci pins w.all at s _ h)))

    -- one that breaks none
    module _ (sound : answer ≡ Ok tt) where
      pub kept : Kept (how_many (byte_at s 0) w.all) s
      kept = all_kept _ _ _ (sym said ∙ sound)

      -- there is room for it
      pub room_for : HasRoom s walks
      unfolding held found_in map_of
      room_for =
          rw w.has.0 (
            λ t. let few = enabled_few w.all in let free : how_many 17 w.all < 256 = rw (sym t) (room_core kept t) in (omega arith, free),
            λ t. rw (sym t) (room_eio kept t),
            λ t. rw (sym t) (room_msi kept t),
            λ t. rw (sym t) (room_bio kept t),
          )

      -- and it stands before those behind it
      pub walk_goes_on : {size : ℕ} → Next size → {walks' : Walk} {offsets' : List ℕ} → Taken base sci pins room (w.all ++ (here ∷ [])) walks' offsets'
          → Walking table base sci pins room offsets' walks' (at + size)
      walk_goes_on n t =
          let h = sym said ∙ sound in
          record {
            all = w.all ++ (here ∷ []);
            has = t;
            rest = sym (rw (next n) (from_next base sci pins w.all at s _ h)) ∙ w.rest;
            taking = sym (rw (next n) (taken_next base sci pins w.all at s _ h)) ∙ w.taking;
          }

-- a part is no longer than it is asked to be
pub part_small : (bytes : List ℕ) (at count : ℕ) → count < 65536 → length (part_at bytes at count) < 65536
part_small bytes at count h = omega (arith, length-take count (drop at bytes))
