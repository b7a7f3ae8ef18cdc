-- What the refusal of a slip tells, and that the slip is handed back.
use Rattle.std.specs.Prelude.{ℕ, not, [], ◌∷◌, Some, None, Ok, Err, Option, Result}
use Rattle.network.specs.Checks.{Told, first_failed, refusal}
use Rattle.network.specs.Lists.{any_of}
use Rattle.ledger.specs.declared.row.RowCall.{RowCall}
use Rattle.ledger.specs.declared.slip.Slip.{Slip}
use Rattle.ledger.specs.declared.slip.SlipRefusal.{SlipRefusal}
use Rattle.ledger.specs.declared.slip.SlipRefusal.TheVariants.{NotHeld}
use Rattle.ledger.specs.Rows.{asked}
use Rattle.ledger.specs.Tally.{Tally}

abbrev pub slip_told : {N : Type 0} → SlipRefusal N → Told
slip_told (NotHeld slip) = refusal 40

-- of a call by a slip: of confirm and of let go, the slip's own refusal
abbrev pub asked_refusal : RowCall → Tally → ℕ → Option Told
asked_refusal call t ticket = first_failed ((not (any_of (asked call ticket) t.entries), refusal 40) ∷ [])

-- the slip inside a refusal
abbrev pub slip_in : {N : Type 0} → SlipRefusal N → Slip N
slip_in (NotHeld slip) = slip

-- the slip that comes back with an answer
abbrev pub handed_back : {N A : Type 0} → Result A (SlipRefusal N) → Option (Slip N)
handed_back (Ok x) = None
handed_back (Err r) = Some (slip_in r)

-- a slip where a check failed, else none
abbrev pub if_refused : {N : Type 0} → Option Told → Slip N → Option (Slip N)
if_refused None slip = None
if_refused (Some told) slip = Some slip

-- the ticket on a slip
abbrev pub ticket_on : {N : Type 0} → Slip N → ℕ
ticket_on slip = slip.ticket
