-- What is known once a hand has answered.
use Rattle.crew.specs.declared.hand.Next.{Next}
use Rattle.crew.specs.declared.hand.Next.TheVariants as next
use Rattle.crew.specs.Hand.{OnGo}

pub on_go : {P Q R : Type 0} (answer : Next) → (P → Q → R) → OnGo answer P → OnGo answer Q → OnGo answer R
on_go next.Go f p q = f p q
on_go next.Halt f p q = tt
