-- Which neighbours a line is for: picks joined by commas, each a neighbour's address with qualifiers.
use Rattle.std.specs.Prelude.{ℕ, ◌≡◌, ◌==◌, Bool, false, codes, List, [], ◌∷◌, ◌++◌, Some, None}
use Rattle.std.specs.List.{list_any}
use Rattle.std.specs.Str.{bytes_eq}
use Rattle.route_values.specs.declared.addr.Addr.{Addr}
use Rattle.route_values.specs.declared.pick.Pick.{Pick}
use Rattle.text_forms.specs.Addresses.{IsIpv4}
use Rattle.text_forms.specs.Families.{IsAddrText}
use Rattle.text_forms.specs.Numbers.{IsAsn}
use Rattle.token_reader.specs.Tokens.{Mark, Word}
use Rattle.route_grammar.specs.Productions.{Production, Further, OneToken, OneWord, Then, Saying, Repeated}
use Rattle.command_grammar.specs.declared.keywords.Qualifier.{Qualifier}
use Rattle.command_grammar.specs.declared.keywords.Qualifier.TheVariants.{LocalIp, LocalAs, PeerAs, RouterId}
use Rattle.command_grammar.specs.Forms.{Ended, Where, Behind}
use Rattle.command_grammar.specs.Keywords.{qualifier_word}

-- a neighbour's address alone
abbrev pub bare : Addr → Pick
bare addr = record { peer = addr; local = None; local_as = None; peer_as = None; router_id = None }

-- the qualifier isn't written yet
abbrev pub IsUnwritten : Qualifier → Pick → Type 0
IsUnwritten LocalIp pick = pick.local ≡ None
IsUnwritten LocalAs pick = pick.local_as ≡ None
IsUnwritten PeerAs pick = pick.peer_as ≡ None
IsUnwritten RouterId pick = pick.router_id ≡ None

-- the word behind a qualifier's own, put into the pick
abbrev pub Qualifying : Qualifier → Pick → Production Pick
Qualifying LocalIp pick = Saying (λ addr. record pick { local = Some addr }) (OneWord IsAddrText)
Qualifying LocalAs pick = Saying (λ asn. record pick { local_as = Some asn }) (OneWord IsAsn)
Qualifying PeerAs pick = Saying (λ asn. record pick { peer_as = Some asn }) (OneWord IsAsn)
Qualifying RouterId pick = Saying (λ id. record pick { router_id = Some id }) (OneWord IsIpv4)

-- these qualifiers in this order, each at most once, put into the pick
abbrev pub AreQualifiers : List Qualifier → Pick → Production Pick
AreQualifiers [] pick = Ended pick
AreQualifiers (first ∷ others) pick =
    Where (λ limits. IsUnwritten first pick)
    (Behind (qualifier_word first) (Then (Qualifying first pick) (AreQualifiers others)))

-- any qualifiers, put into the pick
abbrev pub Qualified : Pick → Production Pick
Qualified pick limits tokens value = (written : List Qualifier) × AreQualifiers written pick limits tokens value

-- one pick
abbrev pub OnePick : Production Pick
OnePick = Behind (codes "neighbor") (Then (OneWord IsAddrText) (λ addr. Qualified (bare addr)))

-- a comma and one pick
abbrev pub FurtherPick : Production Pick
FurtherPick = Then (OneToken (Mark 44)) (λ (said : Unit {0}). OnePick)

-- what follows these picks: further ones, or nothing
abbrev pub FurtherPicks : List Pick → Production (List Pick)
FurtherPicks picks = Saying (λ more. picks ++ more) (Repeated FurtherPick)

-- picks joined by commas
abbrev pub Picks : Production (List Pick)
Picks = Then OnePick (λ first. FurtherPicks (first ∷ []))

-- a word that a qualifier begins with
abbrev pub is_qualifier : List ℕ → Bool
is_qualifier word = list_any (λ which. bytes_eq word (qualifier_word which)) (LocalIp ∷ LocalAs ∷ PeerAs ∷ RouterId ∷
    [])

-- what goes on with a pick
abbrev pub further_pick : Further
further_pick (Some (Word word)) = is_qualifier word
further_pick _ = false

-- what goes on with picks
abbrev pub further_picks : Further
further_picks (Some (Mark sign)) = sign == 44
further_picks (Some (Word word)) = is_qualifier word
further_picks _ = false
