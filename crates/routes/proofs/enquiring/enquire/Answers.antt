-- A check before the work fails, or the work on the filled tables gives the answer.
use Rattle.std.proofs.Common.{◌≡◌, length, is_some, None, sym, refl, ap, ◌∙◌, subst}
use borrow.Author.Tests.{clash}
use Rattle.std.proofs.lemmas.Result.{err_from_is_err_and}
use Rattle.network.specs.Checks.{first_failed}
use Rattle.network.specs.Copies.{copy_meaning}
use Rattle.network.specs.Net.{Net}
use Rattle.length.specs.declared.standard.StandardKind.TheVariants.{Delay, Jitter, Charge, Hops}
use Rattle.length.specs.Standard.{standard}
use Rattle.routes.specs.declared.checking.Sizes.{Sizes}
use Rattle.routes.specs.Enquire.{early_checks, enquiry_answer, enquiry_told}
use Rattle.routes.specs.Lent.{brought}
use Rattle.routes.proofs.Enquiries.{answered_work, early_passed, filled_holds, none_failed, one_failed, refused_early}
use Rattle.routes.proofs.enquiring.enquire.Goals as goal

pub returns-in_err-early_checks : goal.returns-in_err-early_checks
returns-in_err-early_checks g c =
    let model = g.K.Kind.model in
    let net = g.N.Network.meaning c.args.network.now in
    let b = brought c.args.enquiry.now c.args.tables.now c.args.list.now (length c.args.notebook.now) in
    let sizes : Sizes = record { sites = c.from.result; list = length c.args.list.now; tables = c.shortest.result } in
    let sites = c.from.ensures ∙ c.sites.ensures ∙ ap (λ (n : Net). n.sites) c.of-copy.ensures in
    let told = enquiry_told c.in_err-early_checks.field-0.0 in
    let failed = one_failed model net b sizes sites refl c.shortest.ensures told c.in_err-early_checks.ensures in
    let is = refused_early model net b told failed in
    let p = err_from_is_err_and c.from_residual.result c.from_residual.ensures.1 in
    rw (p.1, p.2)
    (record {
      answer = sym (ap (λ a. a.result) is);
      tables = sym (ap (λ a. a.tables) is);
      list = sym (ap (λ a. a.list) is);
      notebook = λ _. refl;
      same_length = refl;
      same_delay = refl;
      same_jitter = refl;
      same_charge = refl;
      same_hops = refl;
    })

pub invariant_of-search : goal.invariant_of-search
invariant_of-search g c =
    let model = g.K.Kind.model in
    let net = copy_meaning c.of-copy.result in
    let e = c.args.enquiry.now in
    let b = brought e c.args.tables.now c.args.list.now (length c.args.notebook.now) in
    let sizes : Sizes = record { sites = c.from.result; list = length c.args.list.now; tables = c.shortest.result } in
    let none = none_failed model net b sizes (c.from.ensures ∙ c.sites.ensures) refl c.shortest.ensures c.in_ok-early_checks.ensures in
    let passed = early_passed model net b none in
    let filled = c.fill_tables.ensures in
    record {
      asked = passed.asked;
      rests_hold = record {
        by_kind = filled_holds (model e.kind) net e.width e.destination b.tables.by_kind _ filled.length;
        by_delay = filled_holds (standard Delay) net e.width e.destination b.tables.by_delay _ filled.delay;
        by_jitter = filled_holds (standard Jitter) net e.width e.destination b.tables.by_jitter _ filled.jitter;
        by_charge = filled_holds (standard Charge) net e.width e.destination b.tables.by_charge _ filled.charge;
        by_hops = filled_holds (standard Hops) net e.width e.destination b.tables.by_hops _ filled.hops;
      };
    }

pub returns : goal.returns
returns g c =
    let model = g.K.Kind.model in
    let copied = copy_meaning c.of-copy.result in
    let same = c.of-copy.ensures in
    let b = brought c.args.enquiry.now c.args.tables.now c.args.list.now (length c.args.notebook.now) in
    let sizes : Sizes = record { sites = c.from.result; list = length c.args.list.now; tables = c.shortest.result } in
    let none = none_failed model copied b sizes (c.from.ensures ∙ c.sites.ensures) refl c.shortest.ensures c.in_ok-early_checks.ensures in
    let is = answered_work model copied b none in
    let filled = c.fill_tables.ensures in
    record {
      answer = c.find_routes.ensures.answer ∙ sym (ap (λ a. a.result) is) ∙ ap (λ n. (enquiry_answer model n b).result) same;
      tables = (λ k. record {
        by_kind = filled.length k;
        by_delay = filled.delay k;
        by_jitter = filled.jitter k;
        by_charge = filled.charge k;
        by_hops = filled.hops k;
      })
          ∙ sym (ap (λ a. a.tables) is) ∙ ap (λ n. (enquiry_answer model n b).tables) same;
      list = c.find_routes.ensures.list ∙ sym (ap (λ a. a.list) is) ∙ ap (λ n. (enquiry_answer model n b).list) same;
      notebook = λ some. absurd (clash (sym (ap is_some (subst (λ n. first_failed (early_checks model n b) ≡ None) same none)) ∙ some));
      same_length = c.fill_tables.ensures.same_length;
      same_delay = c.fill_tables.ensures.same_delay;
      same_jitter = c.fill_tables.ensures.same_jitter;
      same_charge = c.fill_tables.ensures.same_charge;
      same_hops = c.fill_tables.ensures.same_hops;
    }
