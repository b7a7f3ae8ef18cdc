-- The arcs passed are tried; while nothing changed, the table is as it was.
use Rattle.std.proofs.Common.{◌≡◌, false, take}
use Rattle.length.specs.Rounds.{all_tried}
use Rattle.length.proofs.totals.Rounds.try_arcs.Given as goal

abbrev pub invariant-loop-arc : goal.invariant-loop-arc
invariant-loop-arc g l = record {
  tried : l.table ≡ all_tried (g.K.Kind.model l.self.kind.now) l.self.width (take l.arc-index l.self.arcs.now) l.initial.table;
  same : l.changed ≡ false → l.table ≡ l.initial.table;
}
