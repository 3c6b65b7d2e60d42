-- What a map says: document 01, "What comes back": "its unused places, an unused half's byte among them, hold 0, and 61
-- doesn't look at them; maps that differ only there are the same map". Every rule, route and trace is defined on this.
use Rattle.std.specs.Prelude.{ℕ, List, ◌≡◌, take}
use Rattle.kinds.specs.Used.{said_lio, said_ht, said_lpc}
use Rattle.kinds.specs.declared.Lio.{Lio}
use Rattle.kinds.specs.declared.Ht.{Ht}
use Rattle.kinds.specs.declared.Eio.{Eio}
use Rattle.kinds.specs.declared.Bio.{Bio}
use Rattle.kinds.specs.declared.Msi.{Msi}
use Rattle.kinds.specs.declared.Lpc.{Lpc}
use Rattle.lines.specs.declared.Map.{Map}

-- the used fields, in table order
pub record Said : Type 0 where
  pub lio : Lio
  pub ht : Ht
  pub eios : List Eio
  pub bios : List Bio
  pub msis : List Msi
  pub lpc : Lpc
  pub sci : ℕ

-- a map without its unused places
abbrev pub says : Map → Said
says map =
    record {
      lio = said_lio map.lio;
      ht = said_ht map.ht;
      eios = take map.eiocount map.eios;
      bios = take map.biocount map.bios;
      msis = take map.msicount map.msis;
      lpc = said_lpc map.lpc;
      sci = map.sci;
    }

-- two maps are the same map; the counts are compared too, since those past the arrays are gone from what is said
pub record Same (map other : Map) : Type 0 where
  pub eiocount : map.eiocount ≡ other.eiocount
  pub biocount : map.biocount ≡ other.biocount
  pub msicount : map.msicount ≡ other.msicount
  pub said : says map ≡ says other
