-- Every statement of specs/Promises.antt, proved. Assumes nothing.
use Rattle.laws.proofs.Outcomes.{one_outcome}
use Rattle.machhurel.specs.Promises as promised

pub every_export_determined : promised.EveryExportDetermined
every_export_determined b f p words s address length =
    (one_outcome _, one_outcome _, one_outcome _, one_outcome _, one_outcome _, one_outcome _, one_outcome _, one_outcome _, one_outcome _, one_outcome _, one_outcome _, one_outcome _, one_outcome _, one_outcome _, one_outcome _, one_outcome _, one_outcome _, one_outcome _, one_outcome _, one_outcome _, one_outcome _)
