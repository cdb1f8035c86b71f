-- The appended record is the newest, so that filling the newest fills it.
use Rattle.history.specs.History.{range_of}
use Rattle.model.specs.Writing.{setting_appended}
use Rattle.writing.proofs.Steps.{appended_newest, appended_filled}
use Rattle.writing.proofs.append_setting.Goals as goal

pub fill_values-requires-clause-newest : goal.fill_values-requires-clause-newest
fill_values-requires-clause-newest c = search appended_newest

pub returns : goal.returns
unfolding setting_appended range_of
returns c = search appended_filled
