-- What a copy of a network means.
use Rattle.std.specs.Prelude.{take}
use Rattle.network.specs.declared.copy.NetworkCopy.{NetworkCopy}
use Rattle.network.specs.Net.{Net}

abbrev pub copy_meaning : NetworkCopy → Net
copy_meaning copy = record { sites = copy.sites; arcs = take copy.count copy.arcs }
