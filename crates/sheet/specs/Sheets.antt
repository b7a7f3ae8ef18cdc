-- What a value of the type Sheet means.
use Rattle.network.specs.Net.{Net}
use Rattle.sheet.specs.declared.sheet.Sheet.{Sheet}
use Rattle.sheet.specs.Layout.{kept_bytes, net_in}

abbrev pub sheet_meaning : Sheet → Net
sheet_meaning s = net_in (kept_bytes s.arcs s.bytes)
