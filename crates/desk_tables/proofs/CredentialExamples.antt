-- Worked credentials, as they are printed.
use Rattle.std.proofs.Common.{◌≡◌, [], ◌∷◌, refl}
use Rattle.std.specs.Prelude.{codes}
use Rattle.std.specs.Fmt.{digits}
use Rattle.desk_tables.specs.Credentials.{cred_text}

user_without_groups : cred_text record { uid = 3; gids = [] } ≡ codes "3:"
unfolding digits
user_without_groups = refl

user_with_one_group : cred_text record { uid = 0; gids = 10 ∷ [] } ≡ codes "0:10"
unfolding digits
user_with_one_group = refl

user_with_two_groups : cred_text record { uid = 65534; gids = 65533 ∷ 0 ∷ [] } ≡ codes "65534:65533:0"
unfolding digits
user_with_two_groups = refl
