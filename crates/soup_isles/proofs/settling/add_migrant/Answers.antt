use Rattle.std.proofs.Common.{◌≡◌, ◌∙◌, ℕ, List, ap, length, rules, subst, sym}
use Rattle.std.specs.Prelude.{Some}
use Rattle.tierra_model.specs.declared.setups.Inoculum.{Inoculum}
use Rattle.tierra_model.specs.Room.{first_fit}
use Rattle.tierra_model.specs.Setups.{IsSetup}
use Rattle.soup_isles.specs.Isles.{is_settled}
use Rattle.soup_isles.proofs.Joining.{joined-setup}
use Rattle.soup_isles.proofs.settling.add_migrant.Goals as goal

pub returns-in_ok-push-clause-setup : goal.returns-in_ok-push-clause-setup
returns-in_ok-push-clause-setup c =
    let s = c.args.settings.now in
    let xs = c.args.creatures.now.items in
    let size : c.len.result ≡ length c.args.code = search rules in
    let fit : first_fit s.soup_size (is_settled xs) (length c.args.code) ≡ Some c.in-Some.at
    = ap (λ (k : ℕ). first_fit s.soup_size (is_settled xs) k) (sym size) ∙ ap (λ (l : List Inoculum). first_fit s.soup_size (is_settled l) c.len.result)
    (sym c.deref.ensures.value) ∙ sym c.in_ok-at.ensures ∙ c.in-Some.is in
    subst (λ (l : List Inoculum). IsSetup (record { settings = s; creatures = l })) (sym c.in_ok-push.ensures.items)
    (joined-setup s xs c.args.code c.in-Some.at c.requires.setup c.requires.code fit)
