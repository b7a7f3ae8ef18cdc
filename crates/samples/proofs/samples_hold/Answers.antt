-- Each case by computation.
use Rattle.std.proofs.Common.{refl}
use Rattle.samples.proofs.samples_hold.Goals as goal

pub returns : goal.returns
returns c =
    (refl, (refl, (refl, (refl, (refl, (refl, (refl, (refl, (refl, (refl, (refl, (refl, (refl, (refl, (refl, (refl, (refl, (refl, (refl, (refl, (refl, (refl, tt))))))))))))))))))))))
