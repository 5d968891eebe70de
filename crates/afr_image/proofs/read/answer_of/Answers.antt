use Rattle.afr_image.proofs.ReadLemmas.{refused_frame}
use Rattle.afr_image.proofs.read.answer_of.Goals as goal

pub returns-in-Err : goal.returns-in-Err
returns-in-Err c = refused_frame c.args.most c.args.bytes.now c.in-Err.fault c.in-Err.ensures.err
