use Rattle.model.proofs.KeptPlaces.{places-kept}
use Rattle.model.proofs.places_kept_law.Goals as goal

pub returns : goal.returns
returns c = places-kept
