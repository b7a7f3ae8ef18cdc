-- The arcs that were passed stand in the buffer after its first two bytes; what follows is as it was.
use Rattle.std.proofs.Common.{◌≡◌, ◌+◌, ◌*◌, ◌++◌, take, drop}
use Rattle.sheet.specs.Steps.{arcs_bytes}
use Rattle.sheet.proofs.writing.put_arcs.Given as goal

abbrev pub invariant-loop-number : goal.invariant-loop-number
invariant-loop-number g l =
    l.buffer ≡ take 2 l.initial.buffer ++ (arcs_bytes (take l.number (g.N.Network.meaning l.network).arcs) ++ drop (2 + 8 * l.number) l.initial.buffer)
