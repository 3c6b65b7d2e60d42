-- Document 01, "How sharp the contracts are": "For each public call, the inputs determine the result and the list's content
-- afterwards, refused calls too: show that any two results allowed by its contract are equal". It is said of the contracts that
-- the code is proved to meet: of a function, `Kinds` has the parameters and the result, and `Reads` what its clauses allow.
use Rattle.std.specs.Prelude.{ℕ, List, ◌≡◌}
use contract.Lifetimes.{Lfts}
use denote.Triple.Clauses.{Lasts, at_exit}
use borrow.Fn.Kinds.{ParamKind, ResultKind, Out, Dens, res_t, ended_of}
use Rattle.lines.proofs.Map.keeps_rules.Kinds as keeps_rules
use Rattle.lines.proofs.Map.keeps_rules.Reads as keeps-rules-reads
use Rattle.lines.proofs.Map.first_broken.Kinds as first_broken
use Rattle.lines.proofs.Map.first_broken.Reads as first-broken-reads
use Rattle.lines.proofs.Map.route.Kinds as route
use Rattle.lines.proofs.Map.route.Reads as route-reads
use Rattle.lines.proofs.Map.trace.Kinds as trace
use Rattle.lines.proofs.Map.trace.Reads as trace-reads
use Rattle.lines.proofs.Map.route_each.Kinds as route_each
use Rattle.lines.proofs.Map.route_each.Reads as route-each-reads
use Rattle.lines.proofs.Map.owner.Kinds as owner
use Rattle.lines.proofs.Map.owner.Reads as owner-reads
use Rattle.lines.proofs.Map.arrival_of.Kinds as arrival_of
use Rattle.lines.proofs.Map.arrival_of.Reads as arrival-of-reads
use Rattle.lines.proofs.Map.arrival.Kinds as arrival
use Rattle.lines.proofs.Map.arrival.Reads as arrival-reads
use Rattle.lines.proofs.Map.traced.Kinds as traced
use Rattle.lines.proofs.Map.traced.Reads as traced-reads
use Rattle.owners.proofs.fill.Kinds as fill
use Rattle.owners.proofs.fill.Reads as fill-reads
use Rattle.owners.proofs.look_up.Kinds as look_up
use Rattle.owners.proofs.look_up.Reads as look-up-reads
use Rattle.reading.proofs.scan_capture.Kinds as scan_capture
use Rattle.reading.proofs.scan_capture.Reads as scan-capture-reads
use Rattle.reading.proofs.read.Kinds as read
use Rattle.reading.proofs.read.Reads as read-reads
use Rattle.reading.proofs.read_strictly.Kinds as read_strictly
use Rattle.reading.proofs.read_strictly.Reads as read-strictly-reads
use Rattle.reading.proofs.entries.yasmirand_read.Kinds as c_read
use Rattle.reading.proofs.entries.yasmirand_read.Reads as c-read-reads
use Rattle.reading.proofs.entries.yasmirand_route.Kinds as c_route
use Rattle.reading.proofs.entries.yasmirand_route.Reads as c-route-reads
use Rattle.reading.proofs.entries.yasmirand_trace.Kinds as c_trace
use Rattle.reading.proofs.entries.yasmirand_trace.Reads as c-trace-reads
use Rattle.text.proofs.write_text.Kinds as write_text
use Rattle.text.proofs.write_text.Reads as write-text-reads

-- whatever is handed in: any two results that a contract allows are equal, and so is all that lent lists and rooms hold at last
abbrev pub Determined : {n : ℕ} (ps : List (ParamKind n)) (r : ResultKind n) → Out n ps r → Type 0
Determined {n} ps r Allowed =
    (κs : Lfts n) (a : Dens κs ps) (result other : (res_t r κs).Denot) (left left' : Lasts (ended_of n ps r) κs a)
    → Allowed κs a result (at_exit (ended_of n ps r) κs a left) → Allowed κs a other (at_exit (ended_of n ps r) κs a left')
    → (result ≡ other) × (left ≡ left')

-- every public call: over a capture,
pub record OneAnswer : Type 0 where
  pub scan_capture : Determined scan_capture.ps scan_capture.r scan-capture-reads.Post
  pub read : Determined read.ps read.r read-reads.Post
  pub read_strictly : Determined read_strictly.ps read_strictly.r read-strictly-reads.Post
  pub c_read : Determined c_read.ps c_read.r c-read-reads.Post
  pub c_route : Determined c_route.ps c_route.r c-route-reads.Post
  pub c_trace : Determined c_trace.ps c_trace.r c-trace-reads.Post
  pub write_text : Determined write_text.ps write_text.r write-text-reads.Post
  -- and over a map
  pub route : Determined route.ps route.r route-reads.Post
  pub trace : Determined trace.ps trace.r trace-reads.Post
  pub route_each : Determined route_each.ps route_each.r route-each-reads.Post
  pub keeps_rules : Determined keeps_rules.ps keeps_rules.r keeps-rules-reads.Post
  pub first_broken : Determined first_broken.ps first_broken.r first-broken-reads.Post
  pub owner : Determined owner.ps owner.r owner-reads.Post
  pub arrival_of : Determined arrival_of.ps arrival_of.r arrival-of-reads.Post
  pub arrival : Determined arrival.ps arrival.r arrival-reads.Post
  pub traced : Determined traced.ps traced.r traced-reads.Post
  -- with its owner table
  pub fill : Determined fill.ps fill.r fill-reads.Post
  pub look_up : Determined look_up.ps look_up.r look-up-reads.Post
