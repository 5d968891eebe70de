use Rattle.std.proofs.Common.{lit<}
use Rattle.afr_test_server.proofs.Zeros.{zeros_have_room}
use Rattle.afr_test_server.proofs.tests.is_counted_and_read.Goals as goal

pub post-requires : goal.post-requires
post-requires c = rw (c.in-Ok-apply.ensures.ok, c.in-Ok-pre.ensures.ok, c.in-Ok-add_opening_file.ensures.ok, c.in-Ok.ensures) (lit< tt, λ b l. zeros_have_room b)
