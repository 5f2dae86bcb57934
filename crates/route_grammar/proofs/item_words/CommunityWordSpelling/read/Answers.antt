use Rattle.text_forms.proofs.OptionLemmas.{some_map}
use Rattle.route_grammar.proofs.TextLemmas.{community_one}
use Rattle.route_grammar.proofs.item_words.CommunityWordSpelling.read.Goals as goal

pub returns-clause-only : goal.returns-clause-only
returns-clause-only c =
    some_map c.community_of.result _ _ (λ value is other also. community_one c.args.word.now other value also is)
    c.community_of.ensures.found
