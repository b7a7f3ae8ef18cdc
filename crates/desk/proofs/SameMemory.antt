-- Memory that holds the same is brought, and left, the same; and which enquiries leave a notebook as it was.
use Rattle.std.proofs.Common.{◌≡◌, ℕ, Bool, true, false, List, length, is_some, Some, None, Option, Result, sym, refl, ap, ◌∙◌}
use borrow.Author.Tests.{clash}
use Rattle.network.specs.Checks.{Told, first_failed}
use Rattle.network.specs.Net.{Net}
use Rattle.length.specs.Model.{Model}
use Rattle.routes.specs.declared.enquiry.Enquiry.{Enquiry}
use Rattle.routes.specs.declared.enquiry.Found.{Found}
use Rattle.routes.specs.declared.enquiry.RouteRow.{RouteRow}
use Rattle.routes.specs.declared.line.Line.{Line}
use Rattle.routes.specs.Enquire.{Brought, EnquiryAnswer, Tables, early_checks, enquiry_answer, enquiry_outcome, too_few_lines}
use Rattle.routes.specs.Lent.{five_tables}
use Rattle.desk.specs.Calls.{enquired}
use Rattle.desk.specs.Questions.{an_answer}
use Rattle.desk.specs.Turns.{bringing, refused_early}

pub same_tables : {L : Type 0} {a b : List (Option L)} {c d e f g h i j : List (Option ℕ)}
    → a ≡ b → c ≡ d → e ≡ f → g ≡ h → i ≡ j → five_tables a c e g i ≡ five_tables b d f h j
same_tables p q r s t = λ k. five_tables (p k) (q k) (r k) (s k) (t k)

pub same_brought : {K L : Type 0} (e : Enquiry K) {s t : Tables L} {a b : List RouteRow} {m n : List (Line L)}
    → s ≡ t → a ≡ b → m ≡ n → bringing e s a (length m) ≡ bringing e t b (length n)
same_brought e p q r = λ k. bringing e (p k) (q k) (length (r k))

pub same_answer : {L : Type 0} (a : EnquiryAnswer L) {r : Result Found Told} {t : Tables L} {l : List RouteRow}
    → r ≡ a.result → t ≡ a.tables → l ≡ a.list → ◌≡◌ {A = EnquiryAnswer L} (record { result = r; tables = t; list = l }) a
same_answer a p q r = λ k. record { result = p k; tables = q k; list = r k }

-- an enquiry that is refused by a check of a number below 27 fails a check before the work
module _ {K L : Type 0} (model : K → Model L) (net : Net) (b : Brought K L) where
  early_outcome : (o : Option Told) (short : Bool) → refused_early {L = L} (an_answer (enquired (enquiry_outcome model net b o short))) ≡ true → is_some o ≡ true
  early_outcome (Some r) short h = refl
  early_outcome None true h = absurd (clash h)
  early_outcome None false h = absurd (clash h)

  pub failed_early : (a : EnquiryAnswer L) → a ≡ enquiry_answer model net b → refused_early (an_answer (enquired a)) ≡ true → is_some (first_failed (early_checks model net b)) ≡ true
  failed_early a is h = early_outcome (first_failed (early_checks model net b)) (too_few_lines model net b) (sym (ap (λ a. refused_early (an_answer (enquired a))) is) ∙ h)
