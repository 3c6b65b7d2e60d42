-- The hubs of a map: what BIO inputs and MSI slots land on. Document 01, "Where a line arrives", and W-201 of document 02.
use Rattle.std.specs.Prelude.{ℕ, ◌+◌, Bool, List, [], ◌∷◌, map}
use Rattle.words.specs.Choice.{if}
use Rattle.kinds.specs.declared.Lio.{Lio}
use Rattle.kinds.specs.declared.Ht.{Ht}
use Rattle.kinds.specs.declared.Eio.{Eio}
use Rattle.parts.specs.Inputs.{core_vector, input_for}
use Rattle.lines.specs.Says.{Said}
use Rattle.lines.specs.declared.Route.{Route}
use Rattle.lines.specs.declared.Route.TheVariants.{Arrives}

-- a hub has a node, and turns a vector of its own into a core vector, and into a number: so much above it
pub record Hub : Type 0 where
  pub node : ℕ
  pub core : ℕ → ℕ
  pub above : ℕ

-- an EIO: "at that EIO's cascade, with number v, which is the extended vector"
abbrev pub eio_hub : Eio → Hub
eio_hub eio = record { node = eio.node; core = λ v. eio.cascade; above = 0 }

-- the HT: "arrive at the core vector of the named LIO input, with number 256 + vector"; "A slot on the HT has node 0", and a BIO lands on
-- it if its hardware ID is 0
abbrev pub ht_hub : Lio → Ht → Hub
ht_hub lio ht = record { node = 0; core = λ v. core_vector lio (input_for ht v); above = 256 }

-- "A board has either HT or EIO": the hubs of some structures
unfoldable pub hubs_of : Lio → Ht → List Eio → List Hub
hubs_of lio ht eios = if ht.present (ht_hub lio ht ∷ []) (map eio_hub eios)

-- those of a map
abbrev pub hubs : Said → List Hub
hubs said = hubs_of said.lio said.ht said.eios

-- their nodes, by whether there is an HT
unfoldable pub nodes_of : Bool → List Eio → List ℕ
nodes_of ht eios = if ht (0 ∷ []) (map (λ e. e.node) eios)

abbrev pub nodes : Said → List ℕ
nodes said = nodes_of said.ht.present said.eios

-- where a vector of a hub arrives
abbrev pub enters : Hub → ℕ → Route
enters hub v = Arrives (hub.core v) (hub.above + v)
