use Rattle.command_line.proofs.words.form_in.Goals as goal

pub returns-then-has_flag : goal.returns-then-has_flag
returns-then-has_flag c = c.has_flag.ensures.0 c.if-has_flag.true

pub returns-else-has_flag : goal.returns-else-has_flag
returns-else-has_flag c = λ given. let is = c.has_flag.ensures.1 given in let not = c.if-has_flag.false in absurd (cc)
