-- When trying an arc changes nothing.
use Rattle.std.proofs.Common.{◌≡◌, ℕ, ◌≤◌, false, List, get_or, Some, None, Option, sym, refl, le-leb}
use borrow.Author.Tests.{clash}
use Rattle.std.proofs.lemmas.List.{set-get_or}
use Rattle.std.proofs.lemmas.Bool.{not-false}
use Rattle.network.specs.declared.arc.Arc.{Arc}
use Rattle.length.specs.Model.{Model}
use Rattle.length.specs.Least.{shorter}
use Rattle.length.specs.Rounds.{shortens, tried}

module _ {L : Type 0} (m : Model L) where
  shorter_none : (o : Option L) → shorter m o None ≡ o
  shorter_none None = refl
  shorter_none (Some x) = refl

  shorter_stays : (o : Option L) (x : L) → shortens m o x ≡ false → shorter m o (Some x) ≡ o
  shorter_stays None x e = absurd (clash (sym e))
  shorter_stays (Some old) x e = rw (not-false (m.no_longer old x) e)

  module _ (width : ℕ) (arc : Arc) (table : List (Option L)) (room : width ≤ arc.capacity) where
    -- there is no way from where the arc ends
    pub tried_none : get_or table arc.to None ≡ None → tried m width arc table ≡ table
    tried_none e = rw (le-leb width arc.capacity room, e, shorter_none (get_or table arc.from None)) (set-get_or table arc.from None)

    -- the way over the arc is not shorter
    pub tried_longer : (rest : L) → get_or table arc.to None ≡ Some rest → shortens m (get_or table arc.from None) (m.join (m.arc arc) rest) ≡ false
        → tried m width arc table ≡ table
    tried_longer rest e stays =
        rw (le-leb width arc.capacity room, e, shorter_stays (get_or table arc.from None) (m.join (m.arc arc) rest) stays) (set-get_or table arc.from None)
