-- The arcs that were passed over passed their checks, and the reader stands at the next.
use Rattle.std.proofs.Common.{◌≡◌, ◌+◌, ◌*◌, None}
use Rattle.std.specs.List.{range_with_len, flat_map}
use Rattle.network.specs.Checks.{first_failed}
use Rattle.sheet.specs.Layout.{arc_checks}
use Rattle.sheet.proofs.reading.check_arcs.Given as goal

abbrev pub invariant-loop-i : goal.invariant-loop-i
invariant-loop-i l =
    (first_failed (flat_map (arc_checks l.initial.reader.bytes.now) (range_with_len 0 l._i)) ≡ None)
    × (l.reader.position ≡ 16 + 64 * l._i)
    × (l.reader.bytes ≡ l.initial.reader.bytes)
