-- What lines for neighbours want.
use Rattle.std.specs.Prelude.{codes, List, Some, None}
use Rattle.route_values.specs.declared.pick.Pick.{Pick}
use Rattle.text_forms.specs.Families.{IsBlockText}
use Rattle.token_reader.specs.Tokens.{Word}
use Rattle.route_grammar.specs.Productions.{Production, OneToken, OneWord, Then, Either}
use Rattle.command_grammar.specs.declared.command.Command.{Command}
use Rattle.command_grammar.specs.declared.command.Command.TheVariants as said
use Rattle.command_grammar.specs.declared.keywords.Verb.{Verb}
use Rattle.command_grammar.specs.declared.keywords.Verb.TheVariants.{Announce, Withdraw, Flush, Clear, Show, Teardown}
use Rattle.command_grammar.specs.Forms.{Ended, Behind, IsCode}
use Rattle.command_grammar.specs.Keywords.{IsVerb, IsForm}
use Rattle.command_grammar.specs.Routes.{Announced, Withdrawn}

-- the words `adj-rib out`
abbrev pub OutWords : Production (Unit {0})
OutWords = Behind (codes "adj-rib") (OneToken (Word (codes "out")))

-- these words, and then a production
abbrev pub Out : Production Command → Production Command
Out R = Then OutWords (λ (said : Unit {0}). R)

-- the prefix within which routes are told, where one is written
abbrev pub Within : List Pick → Production Command
Within pick = Either (Ended (said.Show pick None))
    (Then (OneWord IsBlockText) (λ block. Ended (said.Show pick (Some block))))

-- what is behind each verb
abbrev pub Wanted : List Pick → Verb → Production Command
Wanted pick Announce = Then (OneWord IsForm) (Announced pick)
Wanted pick Withdraw = Then (OneWord IsForm) (Withdrawn pick)
Wanted pick Flush = Out (Ended (said.Flush pick))
Wanted pick Clear = Out (Ended (said.Clear pick))
Wanted pick Show = Out (Within pick)
Wanted pick Teardown = Then (OneWord IsCode) (λ code. Ended (said.Teardown pick code))

-- a verb and what is behind it
abbrev pub Targeted : List Pick → Production Command
Targeted pick = Then (OneWord IsVerb) (Wanted pick)
