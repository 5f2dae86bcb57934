-- The number and the printed word of each kind of fault.
use Rattle.std.specs.Prelude.{ℕ, codes, List}
use Rattle.config_model.specs.declared.fault.ConfigKind.{ConfigKind}
use Rattle.config_model.specs.declared.fault.ConfigKind.TheVariants as kind

-- the number of a kind
abbrev pub kind_number : ConfigKind → ℕ
kind_number kind.Token = 1
kind_number kind.Twice = 2
kind_number kind.Missing = 3
kind_number kind.Family = 4
kind_number kind.Many = 5
kind_number kind.Process = 6
kind_number kind.Long = 7
kind_number kind.NoProcess = 8

-- the word that is printed for a kind
abbrev pub kind_word : ConfigKind → List ℕ
kind_word kind.Token = codes "token"
kind_word kind.Twice = codes "twice"
kind_word kind.Missing = codes "missing"
kind_word kind.Family = codes "family"
kind_word kind.Many = codes "many"
kind_word kind.Process = codes "process"
kind_word kind.Long = codes "long"
kind_word kind.NoProcess = codes "no-process"
