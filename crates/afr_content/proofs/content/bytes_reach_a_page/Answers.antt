-- What it means that bytes reach a page.
use Rattle.afr_content.proofs.Numbers.{reaches_a_byte}
use Rattle.afr_content.proofs.content.bytes_reach_a_page.Goals as goal

pub returns : goal.returns
returns c = reaches_a_byte
