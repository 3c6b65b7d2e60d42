-- The mission's first demand, of every result that the contract of a public call allows: each call "either answers or refuses
-- with a number and a place from our table", and "A refusal returns its number and place, no map, and every lent list or room
-- untouched" (document 01). It is said of the contracts that the code is proved to meet, as one answer is (OneAnswer).
use Rattle.std.specs.Prelude.{ℕ, ◌^◌, ◌≤◌, ◌<◌, List, ◌⊎◌, ◌≡◌, length, Ok, Err}
use contract.Lifetimes.{Lfts}
use denote.Triple.Clauses.{AtExit}
use borrow.Fn.Kinds.{ParamKind, ResultKind, Out, Dens, res_t, ended_of}
use Rattle.words.specs.Refusals.{refused}
use Rattle.words.specs.declared.Refusal.{Refusal}
use Rattle.lines.specs.Answers.{refusal_code, route_code, trace_code}
use Rattle.lines.specs.declared.Route.{Route}
use Rattle.lines.specs.declared.Trace.{Trace}
use Rattle.lines.proofs.Map.route.Kinds as route
use Rattle.lines.proofs.Map.route.Reads as route-reads
use Rattle.lines.proofs.Map.route_each.Kinds as route_each
use Rattle.lines.proofs.Map.route_each.Reads as route-each-reads
use Rattle.lines.proofs.Map.trace.Kinds as trace
use Rattle.lines.proofs.Map.trace.Reads as trace-reads
use Rattle.owners.specs.Table.{empty_table}
use Rattle.owners.proofs.fill.Kinds as fill
use Rattle.owners.proofs.fill.Reads as fill-reads
use Rattle.owners.proofs.look_up.Kinds as look_up
use Rattle.owners.proofs.look_up.Reads as look-up-reads
use Rattle.reading.specs.Scan.{empty_map}
use Rattle.reading.proofs.scan_capture.Kinds as scan_capture
use Rattle.reading.proofs.scan_capture.Reads as scan-capture-reads
use Rattle.reading.proofs.read.Kinds as read
use Rattle.reading.proofs.read.Reads as read-reads
use Rattle.reading.proofs.read_strictly.Kinds as read_strictly
use Rattle.reading.proofs.read_strictly.Reads as read-strictly-reads
use Rattle.reading.proofs.entries.yasmirand_read.Kinds as c_read
use Rattle.reading.proofs.entries.yasmirand_read.Reads as c-read-reads
use Rattle.reading.proofs.entries.yasmirand_route.Kinds as c_route
use Rattle.reading.proofs.entries.yasmirand_route.Reads as c-route-reads
use Rattle.reading.proofs.entries.yasmirand_trace.Kinds as c_trace
use Rattle.reading.proofs.entries.yasmirand_trace.Reads as c-trace-reads
use Rattle.text.proofs.write_text.Kinds as write_text
use Rattle.text.proofs.write_text.Reads as write-text-reads
use Rattle.promises.specs.RefusalTable.{OfTheTable}

-- whatever is handed in, every result that a contract allows is as claimed. Below, a.0, a.1.0 and a.1.1.0 are the first three
-- parameters, and x.1.0 and x.1.1.0 are the second and the third at the call's exit.
abbrev pub Always : {n : ℕ} (ps : List (ParamKind n)) (r : ResultKind n) → Out n ps r → Out n ps r → Type 0
Always {n} ps r Allowed Claimed =
    (κs : Lfts n) (a : Dens κs ps) (result : (res_t r κs).Denot) (x : AtExit (ended_of n ps r) κs)
    → Allowed κs a result x → Claimed κs a result x

-- ---- over a capture. Where no list is lent, 60 is not given
abbrev pub OfTheList : Refusal → Type 0
OfTheList r = r.number ≡ 60

-- of either strictness, which is the first parameter here
abbrev pub ScanRefuses : Type 0
ScanRefuses =
    Always scan_capture.ps scan_capture.r scan-capture-reads.Post
    (λ κs a result x. (r : Refusal) → result.verdict ≡ Err r
    → OfTheTable a.1.0.now r × (OfTheList r → ⊥) × (result.map ≡ empty_map))

-- the ordinary reading and the strict one
abbrev pub RefusedIsOfTheTable : Out 2 read.ps read.r
RefusedIsOfTheTable κs a result x =
    (r : Refusal) → result.answer ≡ Err r
    → OfTheTable a.0.now r × (result.map ≡ empty_map) × (x.1.0.now ≡ a.1.0.now)

pub record ReadRefuses : Type 0 where
  pub ordinary : Always read.ps read.r read-reads.Post RefusedIsOfTheTable
  pub strict : Always read_strictly.ps read_strictly.r read-strictly-reads.Post RefusedIsOfTheTable

-- a refusal of the table as a number, 2^48 or more; it is none of some
abbrev pub RefusalBut : (Refusal → Type 0) → List ℕ → ℕ → Type 0
RefusalBut Never capture result =
    (2 ^ 48 ≤ result) × ((r : Refusal) × (result ≡ refusal_code r) × OfTheTable capture r × (Never r → ⊥))

-- "its 64-bit result is the count, or refusal number × 2^48 + place"; there are at most 256 processors
abbrev pub CReadRefuses : Type 0
CReadRefuses =
    Always c_read.ps c_read.r c-read-reads.Post
    (λ κs a result x. (RefusalBut (λ r. ⊥) a.0.now result × (x.1.0.now ≡ a.1.0.now)) ⊎ (result ≤ 256))

-- a refusal, or below 2^48 the code of an answer
abbrev pub CRouteRefuses : Type 0
CRouteRefuses =
    Always c_route.ps c_route.r c-route-reads.Post
    (λ κs a result x. RefusalBut OfTheList a.0.now result
    ⊎ ((result < 2 ^ 48) × ((t : Route) × (result ≡ route_code (Ok t)))))

abbrev pub CTraceRefuses : Type 0
CTraceRefuses =
    Always c_trace.ps c_trace.r c-trace-reads.Post
    (λ κs a result x. RefusalBut OfTheList a.0.now result
    ⊎ ((result < 2 ^ 48) × ((t : Trace) × (result ≡ trace_code (Ok t)))))

-- a room that is too short for the text stays as it was, and one of 16,384 bytes never is too short
abbrev pub NoRoomLeaves : Type 0
NoRoomLeaves =
    Always write_text.ps write_text.r write-text-reads.Post
    (λ κs a result x. result ≡ Err (record {}) → (x.1.0.now ≡ a.1.0.now) × (length a.1.0.now < 16384))

-- ---- "any map may be asked about": 61 at place 0, of a list of numbers 62 at place 0 too, and no other refusal
abbrev pub MapRouteRefuses : Type 0
MapRouteRefuses =
    Always route.ps route.r route-reads.Post
    (λ κs a result x. (r : Refusal) → result ≡ Err r → r ≡ refused 61 0)

abbrev pub MapTraceRefuses : Type 0
MapTraceRefuses =
    Always trace.ps trace.r trace-reads.Post
    (λ κs a result x. (r : Refusal) → result ≡ Err r → r ≡ refused 61 0)

abbrev pub MapRouteEachRefuses : Type 0
MapRouteEachRefuses =
    Always route_each.ps route_each.r route-each-reads.Post
    (λ κs a result x. (r : Refusal) → result ≡ Err r
    → ((r ≡ refused 61 0) ⊎ (r ≡ refused 62 0)) × (x.1.1.0.now ≡ a.1.1.0.now))

-- ---- with its owner table: 61 at place 0, where nobody owns a number then; of a lookup 63 at place 0 too
abbrev pub FillRefuses : Type 0
FillRefuses =
    Always fill.ps fill.r fill-reads.Post
    (λ κs a result x. (r : Refusal) → result.verdict ≡ Err r → (r ≡ refused 61 0) × (result.table ≡ empty_table))

abbrev pub LookUpRefuses : Type 0
LookUpRefuses =
    Always look_up.ps look_up.r look-up-reads.Post
    (λ κs a result x. (r : Refusal) → result ≡ Err r → (r ≡ refused 61 0) ⊎ (r ≡ refused 63 0))
