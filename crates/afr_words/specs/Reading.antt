-- What a parse knows of the program: one level of subcommands, one for each form that is a single word, and no other words.
use Rattle.std.specs.Prelude.{true, codes}
use Rattle.clap.specs.Simple.{App, new_app, new_shape, with_subcommand}
use Rattle.clap.specs.Walk.{Text}

-- the program without its forms: its own name is no word, a form is wanted, and there is no help
abbrev pub bare_program : App
bare_program = record (new_app (codes "afr")) {
  top = record (new_shape (codes "afr")) {
    no_binary_name = true;
    disable_help_flag = true;
    disable_help_subcommand = true;
    subcommand_required = true;
  };
}

-- the program with one more word that is a form
abbrev pub with_word : App → Text → App
with_word program word = with_subcommand program (new_shape word)

-- the program with the words of its forms
abbrev pub whole_program : App
whole_program = with_word (with_word (with_word bare_program (codes "run")) (codes "trace")) (codes "info")
