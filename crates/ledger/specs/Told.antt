-- What each refusal of a ledger tells.
use Rattle.network.specs.Checks.{Told, refusal}
use Rattle.ledger.specs.declared.refusals.HoldRefusal.{HoldRefusal}
use Rattle.ledger.specs.declared.refusals.EndRefusal.{EndRefusal}
use Rattle.ledger.specs.declared.refusals.CloseRefusal.{CloseRefusal}
use Rattle.ledger.specs.declared.refusals.ReopenRefusal.{ReopenRefusal}

abbrev pub hold_told : HoldRefusal → Told
hold_told HoldRefusal.WidthZero = refusal 30
hold_told HoldRefusal.ArcsOutside = refusal 31
hold_told HoldRefusal.NoSuchArc = refusal 32
hold_told HoldRefusal.NotJoined = refusal 33
hold_told HoldRefusal.SiteTwice = refusal 34
hold_told HoldRefusal.NoRoom = refusal 35
hold_told HoldRefusal.NoEmptyRow = refusal 36
hold_told HoldRefusal.NoTicketLeft = refusal 37

abbrev pub end_told : EndRefusal → Told
end_told EndRefusal.NotBooked = refusal 41

abbrev pub close_told : CloseRefusal → Told
close_told CloseRefusal.NoSuchArc = refusal 42
close_told CloseRefusal.ClosedAlready = refusal 43
close_told CloseRefusal.InUse = refusal 44

abbrev pub reopen_told : ReopenRefusal → Told
reopen_told ReopenRefusal.NoSuchArc = refusal 42
reopen_told ReopenRefusal.NotClosed = refusal 45
