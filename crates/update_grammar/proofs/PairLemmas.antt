-- Many facts one after another.

-- a fact and those behind it
infixr 3 ◌&◌
abbrev pub ◌&◌ : {A B : Type 0} → A → B → A × B
first & others = (first, others)
