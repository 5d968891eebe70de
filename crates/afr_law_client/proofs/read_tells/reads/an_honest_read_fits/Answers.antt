use Rattle.afr_law_client.proofs.Read.HonestReads as honest
use Rattle.afr_law_client.proofs.read_tells.reads.an_honest_read_fits.Goals as goal

pub returns : goal.returns
returns c = honest.honest_reads
