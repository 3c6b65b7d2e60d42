-- A map without an HT is judged, routed and traced as when there were none.
use Prim.Native.Nat.{ℕ, ◌-◌}
use mathlib.Core.Path.{◌≡◌, ◌∙◌, ap}
use mathlib.Core.Bool.{Bool, false, not, ◌||◌, and-true}
use lib.Dec.{eqb}
use lib.ListN.{length}
use Rattle.words.specs.Choice.{if}
use Rattle.words.specs.Refusals.{rule}
use Rattle.parts.specs.Inputs.{leads, is_named, names_unwired}
use Rattle.lines.specs.Says.{Said, says}
use Rattle.lines.specs.Hubs.{hubs, nodes_of}
use Rattle.lines.specs.Routes.{through}
use Rattle.lines.specs.Traces.{led_by_lio, traced}
use Rattle.lines.specs.declared.Map.{Map}
use Rattle.lines.proofs.Landing.{eios_only, through-eios, traced-eios, hubs_counted}
use Rattle.map_promises.specs.Statements.{WithoutHtAsBefore}
use Rattle.map_promises.proofs.Routing.{owner-lio}

module _ (said : Said) (none : said.ht.present ≡ false) where
  -- nothing is named
  not_named : (i : ℕ) → is_named said.ht i ≡ false
  unfolding is_named
  not_named i = rw none

  no_hub_lem : eqb (length (hubs said)) 0 ≡ eqb (length said.eios) 0
  no_hub_lem = hubs_counted said.lio said.ht said.eios ∙ rw none

-- THE PROMISE
pub without_ht_as_before : (map : Map) → WithoutHtAsBefore map
unfolding names_unwired nodes_of if traced led_by_lio
without_ht_as_before map none =
    let said = says map in
    record {
      r34 = rw none;
      r40 = λ madt. ap (λ (t : Bool). rule (not said.lio.present || t) 40 madt) (no_hub_lem said none);
      r42 = λ all. rw none;
      r44 = λ place. rw none;
      owned = λ n l h. owner-lio said n l h (not_named said none (n - 16));
      arriving = λ node v. ap (λ hubs. through hubs node v) (eios_only said.lio said.ht said.eios none) ∙ through-eios said.eios node v;
      tracing = λ v n.
          let led = leads said.lio.low v n || leads said.lio.high v n in
          rw (not_named said none n, and-true led, ← traced-eios said v n none);
    }
