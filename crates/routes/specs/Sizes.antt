-- The checks of an enquiry before the work begins, by the sizes of what is lent.
use Rattle.std.specs.Prelude.{List, nat_lt}
use Rattle.network.specs.Checks.{Check}
use Rattle.routes.specs.declared.checking.Sizes.{Sizes}
use Rattle.routes.specs.declared.enquiry.Enquiry.{Enquiry}
use Rattle.routes.specs.Enquire.{checks_before}

abbrev pub size_checks : {K : Type 0} → Enquiry K → Sizes → List Check
size_checks e sizes = checks_before e sizes.sites sizes.list (nat_lt sizes.tables sizes.sites)
