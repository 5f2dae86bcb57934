-- A word of each kind, so that what is begun has a completion.
use Rattle.std.proofs.Common.{ℕ, ◌≡◌, List, [], ◌∷◌, Option, Some, None, decimal, codes, arith, ap, sym, ◌∙◌, refl, inl}
use Rattle.std.proofs.Common.{if◌then◌else◌}
use Rattle.std.specs.Str.{bytes_eq}
use Rattle.route_values.specs.declared.addr.Addr.{Addr}
use Rattle.route_values.specs.declared.addr.Addr.TheVariants.{V4, V6}
use Rattle.route_values.specs.declared.addr.Family.{Family}
use Rattle.route_values.specs.declared.addr.Family.TheVariants.{Ipv4, Ipv6}
use Rattle.route_values.specs.Addr.{family_of}
use Rattle.route_values.specs.Prefix.{Block, IsPrefix}
use Rattle.text_forms.specs.Addresses.{IsIpv4}
use Rattle.text_forms.specs.Families.{IsAddrText, IsBlockText}
use Rattle.text_forms.specs.Numbers.{IsAsn}
use Rattle.text_forms.specs.Printed.{ipv4_text, addr_text, prefix_text}
use Rattle.text_forms.proofs.SpelledLemmas.{addr_spelled, block_spelled}
use Rattle.token_reader.specs.Tokens.{Word}
use Rattle.route_grammar.specs.Productions.{OneWord}
use Rattle.route_grammar.proofs.ProductionLemmas.{HasReading}
use Rattle.command_grammar.specs.declared.keywords.Verb.{Verb}
use Rattle.command_grammar.specs.declared.keywords.Verb.TheVariants.{Announce, Withdraw, Flush, Clear, Show, Teardown}
use Rattle.command_grammar.specs.declared.keywords.Form.{Form}
use Rattle.command_grammar.specs.declared.keywords.Form.TheVariants.{Route, Attributes}
use Rattle.command_grammar.specs.Forms.{IsCode}
use Rattle.command_grammar.specs.Keywords.{IsVerb, IsForm, verb_word, form_word}
use Rattle.command_grammar.specs.Routes.{IsBlockOf}
use Rattle.command_grammar.proofs.TokenLemmas.{Sample}

pub sample_some : {V : Type 0} (Spells : List ℕ → V → Type 0) → Sample Spells → HasReading (OneWord Spells)
sample_some Spells sample limits = (Word sample.word ∷ [], sample.value, (sample.word, refl, sample.spelled))

-- the address with no bit set
abbrev pub no_bits : Family → Addr
no_bits Ipv4 = V4 0
no_bits Ipv6 = V6 0

abbrev pub addr_sample : Sample IsAddrText
addr_sample = record { word = addr_text (V4 0); value = V4 0; spelled = addr_spelled (V4 0) (omega arith) }

abbrev pub ipv4_sample : Sample IsIpv4
ipv4_sample = record { word = ipv4_text 0; value = 0; spelled = addr_spelled (V4 0) (omega arith) }

abbrev pub asn_sample : Sample IsAsn
asn_sample = record { word = decimal 1; value = 1; spelled = (omega arith, omega arith, inl refl) }

abbrev pub code_sample : Sample IsCode
code_sample = record { word = decimal 0; value = 0; spelled = (omega arith, refl) }

abbrev pub verb_sample : Sample IsVerb
verb_sample = record { word = verb_word Flush; value = Flush; spelled = refl }

abbrev pub form_sample : Sample IsForm
form_sample = record { word = form_word Route; value = Route; spelled = refl }

-- the prefix of all addresses of a family
abbrev pub all_of : Family → Block
all_of family = record { addr = no_bits family; len = 0 }

pub all_prefix : (family : Family) → IsPrefix (no_bits family) 0
all_prefix Ipv4 = record { fits = omega arith; short = omega arith; zeros = refl }
all_prefix Ipv6 = record { fits = omega arith; short = omega arith; zeros = refl }

pub all_spelled : (family : Family) → IsBlockText (prefix_text (all_of family)) (all_of family)
all_spelled family = block_spelled (all_of family) (all_prefix family)

abbrev pub block_sample : Sample IsBlockText
block_sample = record { word = prefix_text (all_of Ipv4); value = all_of Ipv4; spelled = all_spelled Ipv4 }

-- a prefix of the wanted family, where one is wanted
no_bits_of : (family : Family) → family_of (no_bits family) ≡ family
no_bits_of Ipv4 = refl
no_bits_of Ipv6 = refl

pub block_of_some : (wanted : Option Family) → Sample (IsBlockOf wanted)
block_of_some None =
    record { word = prefix_text (all_of Ipv4); value = all_of Ipv4; spelled = (all_spelled Ipv4, tt) }
block_of_some (Some family) =
    record {
      word = prefix_text (all_of family);
      value = all_of family;
      spelled = (all_spelled family, no_bits_of family);
    }

-- ---- no two verbs have one word, and no two forms

verb_from : List ℕ → Verb
verb_from word =
    if bytes_eq word (codes "announce") then Announce else
    (if bytes_eq word (codes "withdraw") then Withdraw else
    (if bytes_eq word (codes "flush") then Flush else
    (if bytes_eq word (codes "clear") then Clear else
    (if bytes_eq word (codes "show") then Show else Teardown))))

verb_back : (verb : Verb) → verb_from (verb_word verb) ≡ verb
unfolding verb_from
verb_back Announce = refl
verb_back Withdraw = refl
verb_back Flush = refl
verb_back Clear = refl
verb_back Show = refl
verb_back Teardown = refl

pub verb_once : (word : List ℕ) (verb other : Verb) → word ≡ verb_word verb → word ≡ verb_word other → other ≡ verb
verb_once word verb other is also =
    sym (verb_back other) ∙ ap verb_from (sym also ∙ is) ∙ verb_back verb

form_from : List ℕ → Form
form_from word = if bytes_eq word (codes "route") then Route else Attributes

form_back : (form : Form) → form_from (form_word form) ≡ form
unfolding form_from
form_back Route = refl
form_back Attributes = refl

pub form_once : (word : List ℕ) (form other : Form) → word ≡ form_word form → word ≡ form_word other → other ≡ form
form_once word form other is also =
    sym (form_back other) ∙ ap form_from (sym also ∙ is) ∙ form_back form
