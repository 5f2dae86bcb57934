-- Static routes: each reads at least one token, and what becomes of its parts.
use Rattle.std.proofs.Common.{ℕ, ◌≡◌, ◌≤◌, codes, List, [], ◌∷◌, ◌++◌, length, Option, Some, None, Result, Ok, Err}
use Rattle.std.proofs.Common.{sym, ap, ◌∙◌, refl, subst, arith, length-append}
use Rattle.route_values.specs.declared.addr.Family.{Family}
use Rattle.route_values.specs.Addr.{family_of}
use Rattle.route_values.specs.Prefix.{Block}
use Rattle.text_forms.specs.Families.{IsBlockText}
use Rattle.token_reader.specs.declared.token.Place.{Place}
use Rattle.token_reader.specs.Tokens.{Placed, front_place}
use Rattle.route_grammar.specs.declared.fault.LineFault.{LineFault}
use Rattle.route_grammar.specs.declared.fault.LineFault.TheVariants.{BadToken, TooMany, TooLong}
use Rattle.route_grammar.specs.declared.items.Items.{Items}
use Rattle.route_grammar.specs.Answered.{Blames}
use Rattle.route_grammar.specs.Items.{ReadsItems, items_further}
use Rattle.route_grammar.specs.Limits.{in_force}
use Rattle.config_model.specs.declared.fault.ConfigKind.{ConfigKind}
use Rattle.config_model.specs.declared.sections.StaticRoute.{StaticRoute}
use Rattle.config_reader.specs.declared.fault.ConfigError.{ConfigError}
use Rattle.config_reader.specs.declared.fault.ConfigError.TheVariants.{Refused}
use Rattle.config_reader.specs.Answered.{Answers}
use Rattle.config_reader.specs.Keyed.{kind_of, route_ended}
use Rattle.config_reader.specs.Rules.{Gives, Stops, SaysSign, ◌>>=◌, fault_at, never, saying, sign_or}
use Rattle.config_reader.specs.Statics.{items_at, route_of, route_statement, route_wrong}
use Rattle.config_reader.specs.Words.{IsText, SaysWord, keyword, word}
use Rattle.config_reader.proofs.RuleLemmas.{goes, same_end, stops}
use Rattle.config_reader.proofs.ShrinkLemmas.{Keeps, Shrinks, front_shrinks, saying_keeps, shrinks_keeps, then_keeps}
use Rattle.config_reader.proofs.ShrinkLemmas.{then_shrinks}

-- FEWER TOKENS

back_shorter : (before left tokens : List Placed) → tokens ≡ before ++ left → length left ≤ length tokens
back_shorter before left tokens is =
    subst (λ (all : List Placed). length left ≤ length all) (sym is) (omega (arith, length-append before left))

items_keep : (family : Family) → Keeps (items_at family)
items_keep family end tokens rest value (before, is, read) = back_shorter before rest tokens is

ended_keeps : (routes : List StaticRoute) (block : Block) (items : Items) → Keeps (route_ended routes block items)
ended_keeps routes block items =
    then_keeps (sign_or 59 (route_wrong routes block items)) (λ ended. saying (routes ++ route_of block items ∷ []))
    (shrinks_keeps (sign_or 59 (route_wrong routes block items))
    (front_shrinks (SaysSign 59) (λ value. route_wrong routes block items)))
    (λ ended. saying_keeps (routes ++ route_of block items ∷ []))

block_keeps : (routes : List StaticRoute) (block : Block)
    → Keeps (items_at (family_of block.addr) >>= route_ended routes block)
block_keeps routes block =
    then_keeps (items_at (family_of block.addr)) (route_ended routes block) (items_keep (family_of block.addr))
    (ended_keeps routes block)

pub route_shrinks : (routes : List StaticRoute) → Shrinks (route_statement routes)
route_shrinks routes =
    then_shrinks (keyword (codes "route"))
    (λ first. word IsBlockText >>= λ block. items_at (family_of block.addr) >>= route_ended routes block)
    (front_shrinks (SaysWord (IsText (codes "route"))) never)
    (λ first. then_keeps (word IsBlockText) (λ block. items_at (family_of block.addr) >>= route_ended routes block)
    (shrinks_keeps (word IsBlockText) (front_shrinks (SaysWord IsBlockText) never)) (block_keeps routes))

-- PARTS OF A ROUTE

-- a fault that the items' reader names
items_stop : (family : Family) (end : Place) (tokens left : List Placed) (fault : LineFault)
    → Blames (ReadsItems (Some family)) items_further in_force tokens left end fault
    → items_at family end tokens (Stops (fault_at (kind_of fault) (front_place left end)))
items_stop family end tokens left (BadToken place) (at, faults) = (left, None, faults, refl)
items_stop family end tokens left (TooMany place limit) (which, most, at, faults) = (left, Some which, faults, refl)
items_stop family end tokens left TooLong none = elim none [ ]

-- and what its reader answers there
pub items_refused : (family : Family) (end same : Place) (tokens left other : List Placed) (line : LineFault)
    (kind : ConfigKind) (error : ConfigError) → kind ≡ kind_of line
    → error ≡ Refused (fault_at kind (front_place left same)) → same ≡ end
    → Blames (ReadsItems (Some family)) items_further in_force tokens left same line
    → Answers (items_at family) end tokens other (Err error)
items_refused family end same tokens left other line kind error kind_is error_is end_is blames =
    let told : error ≡ Refused (fault_at (kind_of line) (front_place left same)) =
    error_is ∙ ap (λ (one : ConfigKind). Refused (fault_at one (front_place left same))) kind_is in
    same_end (items_at family) end same tokens other (Err error) end_is
    (subst (λ (one : ConfigError). Answers (items_at family) same tokens other (Err one)) (sym told)
    (items_stop family same tokens left line blames))

-- the family of the prefix
pub same_items : (family other : Family) (end : Place) (tokens left : List Placed) (answer : Result Items ConfigError)
    → other ≡ family → Answers (items_at other) end tokens left answer
    → Answers (items_at family) end tokens left answer
same_items family other end tokens left answer is here =
    subst (λ (one : Family). Answers (items_at one) end tokens left answer) is here

-- what is wrong with a route is wrong at its end
same_sign : (wrong other : Option ConfigKind) (end : Place) (tokens left : List Placed)
    (answer : Result (Unit {0}) ConfigError) → wrong ≡ other → Answers (sign_or 59 wrong) end tokens left answer
    → Answers (sign_or 59 other) end tokens left answer
same_sign wrong other end tokens left answer is here =
    subst (λ (one : Option ConfigKind). Answers (sign_or 59 one) end tokens left answer) is here

pub ended_stops : (routes : List StaticRoute) (block : Block) (items : Items) (wrong : Option ConfigKind) (end : Place)
    (tokens left other : List Placed) (error : ConfigError) → wrong ≡ route_wrong routes block items
    → Answers (sign_or 59 wrong) end tokens left (Err error)
    → Answers (route_ended routes block items) end tokens other (Err error)
ended_stops routes block items wrong end tokens left other error is here =
    stops (sign_or 59 (route_wrong routes block items)) (λ ended. saying (routes ++ route_of block items ∷ [])) end
    tokens left other error
    (same_sign wrong (route_wrong routes block items) end tokens left (Err error) is here)

pub ended_goes : (routes all : List StaticRoute) (block : Block) (items : Items) (wrong : Option ConfigKind)
    (end : Place) (tokens left : List Placed) → wrong ≡ route_wrong routes block items
    → sign_or 59 wrong end tokens (Gives tt left) → all ≡ routes ++ route_of block items ∷ []
    → Answers (route_ended routes block items) end tokens left (Ok all)
ended_goes routes all block items wrong end tokens left is here with =
    goes (sign_or 59 (route_wrong routes block items)) (λ ended. saying (routes ++ route_of block items ∷ [])) end
    tokens left left tt (Ok all)
    (same_sign wrong (route_wrong routes block items) end tokens left (Ok tt) is here)
    (ap (λ (value : List StaticRoute). Gives value left) with)
