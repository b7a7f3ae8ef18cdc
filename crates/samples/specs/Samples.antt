-- The sample cases, as one table, and the statement that each of them comes out so.
use Rattle.std.specs.Prelude.{◌≡◌, ℕ, List, [], ◌∷◌, map, take, drop, Ok, Err}
use Rattle.std.specs.List.{AllByRecursion}
use Rattle.network.specs.Checks.{Told, refusal}
use Rattle.network.specs.Net.{Net}
use Rattle.sheet.specs.Layout.{sheet_of}
use Rattle.length.specs.declared.standard.StandardKind.{StandardKind}
use Rattle.length.specs.declared.standard.StandardKind.TheVariants.{Weight, Width}
use Rattle.length.specs.Standard.{standard}
use Rattle.length.specs.Walks.{walk_length}
use Rattle.routes.specs.Routes.{routes_in}
use Rattle.routes.specs.Enquire.{Brought, EnquiryAnswer, enquiry_answer}
use Rattle.ledger.specs.Tally.{free_net}
use Rattle.desk.specs.Calls.{Call, hold, Answer, held, tally_of, tally_answer}
use Rattle.samples.specs.Sample.{sample, ask}

-- a call on a ledger over the sample network, and what an enquiry brings
abbrev pub SampleCall : Type 0
SampleCall = Call StandardKind ℕ

abbrev pub SampleEnquiry : Type 0
SampleEnquiry = Brought StandardKind ℕ

-- what is asked: so many bytes of the sheet from one on; or, once some calls were made on a new ledger, the routes that an
-- enquiry lists, its number of lines, or the answer of a call
pub data Question : Type 0 where
  bytes_at : (first count : ℕ) → Question
  routes_for : List SampleCall → SampleEnquiry → Question
  lines_for : List SampleCall → SampleEnquiry → Question
  answer_to : List SampleCall → SampleCall → Question

-- what comes out: bytes; routes, each with its length; a number of lines; a refused enquiry; or the answer of a call
pub data Outcome : Type 0 where
  bytes : List ℕ → Outcome
  routes : List (List ℕ × ℕ) → Outcome
  lines : ℕ → Outcome
  refused : Told → Outcome
  answers : Answer ℕ → Outcome

-- the sample network as the ledger shows it after some calls
abbrev pub shown : List SampleCall → Net
shown before = free_net sample (tally_of sample before)

abbrev pub with_lengths : Net → StandardKind → List (List ℕ) → List (List ℕ × ℕ)
with_lengths net kind rs = map (λ r. (r, walk_length (standard kind) net r)) rs

-- the routes are read off the list that the enquiry leaves
abbrev pub routes_told : Net → StandardKind → EnquiryAnswer ℕ → Outcome
routes_told net kind a =
    elim a.result [ Ok f ↦ routes (with_lengths net kind (routes_in f.routes a.list)) | Err t ↦ refused t ]

abbrev pub lines_told : EnquiryAnswer ℕ → Outcome
lines_told a = elim a.result [ Ok f ↦ lines f.lines | Err t ↦ refused t ]

abbrev pub comes_out : Question → Outcome
comes_out (bytes_at first count) = bytes (take count (drop first (sheet_of sample)))
comes_out (routes_for before b) = routes_told (shown before) b.enquiry.kind (enquiry_answer standard (shown before) b)
comes_out (lines_for before b) = lines_told (enquiry_answer standard (shown before) b)
comes_out (answer_to before call) = answers (tally_answer standard sample (tally_of sample before) call)

abbrev pub sample_table : List (Question × Outcome)
sample_table =
    -- the head of the sheet, and its arc 0
    (bytes_at 0 2, bytes (0x08 ∷ 0x06 ∷ []))
    ∷ (bytes_at 2 8, bytes (0x00 ∷ 0x10 ∷ 0x02 ∷ 0x00 ∷ 0x30 ∷ 0x04 ∷ 0x05 ∷ 0x0A ∷ []))
    -- a hold of 1-3 at width 10, and the enquiry after it
    ∷ (answer_to [] (hold 10 (1 ∷ 3 ∷ [])), answers (held (Ok 1)))
    ∷ (routes_for (hold 10 (1 ∷ 3 ∷ []) ∷ []) (ask Weight 8 3 4096), routes [])
    ∷ (lines_for (hold 10 (1 ∷ 3 ∷ []) ∷ []) (ask Weight 8 3 4096), lines 0)
    -- by weight, with 3, 4, 1 and 2 wanted
    ∷ (routes_for [] (ask Weight 8 3 4096), routes ((0 ∷ 4 ∷ 3 ∷ [], 4) ∷ (1 ∷ 3 ∷ [], 5) ∷ (1 ∷ 5 ∷ 2 ∷ [], 7) ∷ []))
    ∷ (lines_for [] (ask Weight 8 3 4096), lines 8)
    ∷ (routes_for [] (ask Weight 8 4 4096), routes ((0 ∷ 4 ∷ 3 ∷ [], 4) ∷ (1 ∷ 3 ∷ [], 5) ∷ (1 ∷ 5 ∷ 2 ∷ [], 7) ∷ []))
    ∷ (lines_for [] (ask Weight 8 4 4096), lines 8)
    ∷ (routes_for [] (ask Weight 8 1 4096), routes ((0 ∷ 4 ∷ 3 ∷ [], 4) ∷ []))
    ∷ (lines_for [] (ask Weight 8 1 4096), lines 5)
    ∷ (routes_for [] (ask Weight 8 2 4096), routes ((0 ∷ 4 ∷ 3 ∷ [], 4) ∷ (1 ∷ 3 ∷ [], 5) ∷ []))
    ∷ (lines_for [] (ask Weight 8 2 4096), lines 7)
    -- with delay at most 7
    ∷ (routes_for [] (ask Weight 7 3 4096), routes ((0 ∷ 4 ∷ 3 ∷ [], 4) ∷ (1 ∷ 3 ∷ [], 5) ∷ []))
    ∷ (lines_for [] (ask Weight 7 3 4096), lines 7)
    -- by width
    ∷ (routes_for [] (ask Width 8 3 4096), routes ((0 ∷ 4 ∷ 3 ∷ [], 10) ∷ (1 ∷ 3 ∷ [], 10) ∷ (1 ∷ 5 ∷ 2 ∷ [], 4) ∷ []))
    -- a first hold on 0-2, which has room for 4
    ∷ (answer_to [] (hold 5 (0 ∷ 2 ∷ [])), answers (held (Err (refusal 35))))
    ∷ (answer_to [] (hold 4 (0 ∷ 2 ∷ [])), answers (held (Ok 1)))
    -- a notebook of 7 lines is too short for 3 routes, and one of 8 is not
    ∷ (routes_for [] (ask Weight 8 3 7), refused (refusal 27))
    ∷ (lines_for [] (ask Weight 8 3 7), refused (refusal 27))
    ∷ (routes_for [] (ask Weight 8 3 8), routes ((0 ∷ 4 ∷ 3 ∷ [], 4) ∷ (1 ∷ 3 ∷ [], 5) ∷ (1 ∷ 5 ∷ 2 ∷ [], 7) ∷ []))
    ∷ (lines_for [] (ask Weight 8 3 8), lines 8)
    ∷ []

-- every case comes out as the table has it
abbrev pub SamplesHold : Type 0
SamplesHold = AllByRecursion (λ (s : Question × Outcome). comes_out s.0 ≡ s.1) sample_table
