use Rattle.afr_image.proofs.print.print_image.Goals as goal

pub push_steps-requires : goal.push_steps-requires
push_steps-requires c = rw c.as_slice.ensures c.requires.steps
