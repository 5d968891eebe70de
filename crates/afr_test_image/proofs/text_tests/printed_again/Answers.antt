use Rattle.afr_test_image.proofs.text_tests.printed_again.Goals as goal

pub print_image-requires : goal.print_image-requires
print_image-requires c = c.in-Ok.ensures.read.image.numbers
