-- A step that ends in another way.
use Rattle.hc_steps.specs.Step.{Step, leaves, ends, say, look}

unfoldable pub ending : {E F A : Type 0} → (E → F) → Step E A → Step F A
ending end (leaves left) = leaves left
ending end (ends with) = ends (end with)
ending end (say event rest) = say event (ending end rest)
ending end (look read rest) = look read (λ shown. ending end (rest shown))
