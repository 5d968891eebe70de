-- What each byte becomes, from the lemmas on the definitions.
use Rattle.afr_object.specs.BytesLemmas.{byte_at-written, byte_at-copied_in}
use Rattle.afr_content.proofs.bytes.bytes_after_a_call.Goals as goal

pub returns-clause-written : goal.returns-clause-written
returns-clause-written c = byte_at-written

pub returns-clause-copied_in : goal.returns-clause-copied_in
returns-clause-copied_in c = byte_at-copied_in
