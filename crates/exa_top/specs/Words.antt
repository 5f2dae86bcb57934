-- The words of a command.
use Rattle.std.specs.Prelude.{ℕ, ◌≡◌, codes, List, [], ◌∷◌}
use Rattle.route_values.specs.Caps.{Caps}
use Rattle.text_forms.specs.Addresses.{IsIpv4}
use Rattle.text_forms.specs.Numbers.{IsAsn}
use Rattle.exa_top.specs.CapWords.{AreCaps}
use Rattle.exa_top.specs.Loaded.{IsLoadWords}
use Rattle.exa_top.specs.declared.words.Ends.{Ends}
use Rattle.exa_top.specs.declared.words.TextCommand.{TextCommand}
use Rattle.exa_top.specs.declared.words.TextCommand.TheVariants.{Encode, EncodePlain, Check, Play, Load, Parse, Decode}
use Rattle.exa_top.specs.declared.words.TextCommand.TheVariants.{Help, Version}

-- `encode LOCAL_AS PEER_AS LOCAL_IP`
pub record IsEncode (words : List (List ℕ)) (ends : Ends) : Type 0 where
  pub local_as : List ℕ
  pub peer_as : List ℕ
  pub local : List ℕ
  pub words_are : words ≡ codes "encode" ∷ local_as ∷ peer_as ∷ local ∷ []
  pub local_as_is : IsAsn local_as ends.local_as
  pub peer_as_is : IsAsn peer_as ends.peer_as
  pub local_is : IsIpv4 local ends.local

-- `decode CAP ..`
abbrev pub IsDecode : List (List ℕ) → Caps → Type 0
IsDecode words caps = (names : List (List ℕ)) × (words ≡ codes "decode" ∷ names) × AreCaps names caps

-- the command that words spell
abbrev pub IsCommand : List (List ℕ) → TextCommand → Type 0
IsCommand words (Encode path) = words ≡ codes "encode" ∷ path.now ∷ []
IsCommand words (EncodePlain ends) = IsEncode words ends
IsCommand words (Check path) = words ≡ codes "check" ∷ path.now ∷ []
IsCommand words (Play path) = words ≡ codes "play" ∷ path.now ∷ []
IsCommand words (Load count) = IsLoadWords words count
IsCommand words Parse = words ≡ codes "parse" ∷ []
IsCommand words (Decode caps) = IsDecode words caps
IsCommand words Help = words ≡ codes "--help" ∷ []
IsCommand words Version = words ≡ codes "--version" ∷ []
