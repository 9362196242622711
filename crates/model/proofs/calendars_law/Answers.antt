use Rattle.model.proofs.CalendarsMeet.{calendars_agree}
use Rattle.model.proofs.calendars_law.Goals as goal

pub returns : goal.returns
returns c = calendars_agree
