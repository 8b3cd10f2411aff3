-- The two lowest dictionaries of a context, which stay whatever it does (PLRM2, 3.7.1).
use Rattle.std.specs.Prelude.{◌≡◌, ◌-◌, List, [], ◌∷◌, length, drop, IfSome}
use Rattle.std.specs.List.{AllByRecursion}
use Rattle.ps_language.specs.Value.{Value}
use Rattle.ps_language.specs.World.{World}
use Rattle.ps_language.specs.Worlds.{system_value, user_value}

-- the two lowest dictionaries of a stack, whose topmost is first
abbrev pub lowest : List Value → List Value
lowest dictionaries = drop (length dictionaries - 2) dictionaries

-- they are userdict above systemdict
abbrev pub HasFirstDictionaries : (dictionaries : List Value) → Type 0
HasFirstDictionaries dictionaries = lowest dictionaries ≡ user_value ∷ system_value ∷ []

-- and so they are of each context that is left
abbrev pub HaveFirstDictionaries : World → Type 0
HaveFirstDictionaries world =
    AllByRecursion (λ context. IfSome context (λ there. HasFirstDictionaries there.dictionaries))
    world.contexts
