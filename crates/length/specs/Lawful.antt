-- The standard kinds keep the laws.
use Rattle.std.specs.Prelude.{ℕ, ◌≤◌, ◌||◌, T, nat_le}
use Rattle.std.proofs.Common.{arith, leb→le, le→leb}
use Rattle.std.specs.Bool.{passes}
use Rattle.std.proofs.lemmas.Bool.Decides.{nat_tests}
use Rattle.network.specs.declared.arc.Arc.{Arc}
use Rattle.network.specs.Net.{ArcFits}
use Rattle.length.specs.declared.standard.StandardKind.{StandardKind}
use Rattle.length.specs.declared.standard.StandardKind.TheVariants.{Weight, Delay, Jitter, Charge, Hops, Width}
use Rattle.length.specs.Model.{Lawful}
use Rattle.length.specs.Standard.{standard, adding, narrowing}

-- of two numbers one is at most the other
pub leb_total : (a b : ℕ) → T (nat_le a b || nat_le b a)
leb_total a b = passes _ (grind (arith, nat_tests))

-- the figure is a number of at most 12 bits
abbrev pub Small : (Arc → ℕ) → Type 0
Small figure = (sites : ℕ) (a : Arc) → ArcFits sites a → figure a ≤ 4095

pub adding_lawful : (figure : Arc → ℕ) → Small figure → Lawful (adding figure)
adding_lawful figure small = record {
  arc_valid = λ sites a fits. le→leb _ _ (omega (arith, small sites a fits));
  empty_valid = tt;
  join_valid = λ a b va vb. le→leb _ _ (omega arith);
  assoc = λ a b c va vb vc. omega arith;
  empty_left = λ a va. omega (arith, leb→le a 4294967295 va);
  empty_right = λ a va. omega (arith, leb→le a 4294967295 va);
  total = λ a b va vb. leb_total a b;
  antisym = λ a b va vb ab ba. omega (arith, leb→le a b ab, leb→le b a ba);
  trans = λ a b c va vb vc ab bc. le→leb _ _ (omega (arith, leb→le a b ab, leb→le b c bc));
  empty_least = λ a va. le→leb _ _ (omega arith);
  join_left = λ a b c va vb vc ab. le→leb _ _ (omega (arith, leb→le a b ab));
  join_right = λ a b c va vb vc ab. le→leb _ _ (omega (arith, leb→le a b ab));
}

pub narrowing_lawful : Lawful narrowing
narrowing_lawful = record {
  arc_valid = λ sites a fits. le→leb _ _ fits.capacity_fits;
  empty_valid = tt;
  join_valid = λ a b va vb. le→leb _ _ (omega (arith, leb→le a 255 va));
  assoc = λ a b c va vb vc. omega arith;
  empty_left = λ a va. omega (arith, leb→le a 255 va);
  empty_right = λ a va. omega (arith, leb→le a 255 va);
  total = λ a b va vb. leb_total b a;
  antisym = λ a b va vb ab ba. omega (arith, leb→le b a ab, leb→le a b ba);
  trans = λ a b c va vb vc ab bc. le→leb _ _ (omega (arith, leb→le b a ab, leb→le c b bc));
  empty_least = λ a va. va;
  join_left = λ a b c va vb vc ab. le→leb _ _ (omega (arith, leb→le b a ab));
  join_right = λ a b c va vb vc ab. le→leb _ _ (omega (arith, leb→le b a ab));
}

pub standard_lawful : (kind : StandardKind) → Lawful (standard kind)
standard_lawful Weight = adding_lawful (λ a. a.weight) (λ sites a fits. fits.weight_fits)
standard_lawful Delay = adding_lawful (λ a. a.delay) (λ sites a fits. fits.delay_fits)
standard_lawful Jitter = adding_lawful (λ a. a.jitter) (λ sites a fits. omega (arith, fits.jitter_fits))
standard_lawful Charge = adding_lawful (λ a. a.charge) (λ sites a fits. omega (arith, fits.charge_fits))
standard_lawful Hops = adding_lawful (λ a. 1) (λ sites a fits. omega arith)
standard_lawful Width = narrowing_lawful
