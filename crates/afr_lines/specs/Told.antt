-- What the log keeps of an answer.
use Rattle.afr_lines.specs.declared.answer.Answer.{Answer}
use Rattle.afr_lines.specs.declared.answer.Answer.TheVariants as answer
use Rattle.afr_lines.specs.declared.answer.Told.{Told}
use Rattle.afr_lines.specs.declared.answer.Told.TheVariants as told

-- what was read is only given; each other answer is told as it is
abbrev pub told_by : Answer → Told
told_by answer.Granted = told.Granted
told_by (answer.Held owner) = told.Held owner
told_by (answer.Seen view) = told.Seen view
told_by answer.Done = told.Done
told_by (answer.Bytes bytes) = told.Given
told_by (answer.Entry entry) = told.Given
told_by (answer.Names names) = told.Given
told_by (answer.Value value) = told.Given
told_by (answer.Attrs attrs) = told.Given
told_by (answer.Index index) = told.Given
told_by answer.NoObject = told.NoObject
told_by answer.NotConnected = told.NotConnected
told_by answer.Failed = told.Failed
