-- `capture::room_of_run` goes along the run, as far as each segment starts at the end of the one before it.
use Rattle.std.proofs.Common.{sym, ◌∙◌, arith}
use Rattle.capture.proofs.Descriptors.{later_read, later_count}
use Rattle.capture.proofs.Runs.{along_start, along_on, along_gap, along_end}
use Rattle.capture.proofs.room_of_run.Goals as goal

pub loop-descriptor-init : goal.loop-descriptor-init
loop-descriptor-init c = (omega arith, λ capture i counted later here. along_start capture counted here)

pub returns-then-not-starts_at : goal.returns-then-not-starts_at
returns-then-not-starts_at c capture i counted later here =
    let a = c.loop-descriptor.invariant.1 capture i counted later here in
    let read = later_read capture i later c.loop-descriptor.descriptor-index _ c.loop-descriptor-test.true c.segment_of-segment.ensures in
    along_gap capture a (rw (← read.0) (sym c.starts_at.ensures ∙ c.if-not-starts_at.true))

pub loop-descriptor-preserved : goal.loop-descriptor-preserved
loop-descriptor-preserved c = (
  omega (arith, c.loop-descriptor.invariant.0),
  λ capture i counted later here.
      let a = c.loop-descriptor.invariant.1 capture i counted later here in
      let read = later_read capture i later c.loop-descriptor.descriptor-index _ c.loop-descriptor-test.true c.segment_of-segment.ensures in
      rw read.1 (along_on capture a read.2 (rw (← read.0) (sym c.starts_at.ensures ∙ c.if-not-starts_at.false))),
)

pub returns : goal.returns
returns c capture i counted later here =
    let a = c.loop-descriptor.invariant.1 capture i counted later here in
    along_end capture a (omega (arith, later_count capture i later))
