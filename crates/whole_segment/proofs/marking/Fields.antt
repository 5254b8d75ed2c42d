-- What the fields of a bucket's metadata say of its record slots is what its word 1 says.
use Rattle.std.proofs.Common.{ℕ, ◌↔◌, sym, ◌∙◌}
use Rattle.bucket_meta.specs.declared.metadata.Meta.{Meta}
use Rattle.bucket_meta.specs.MetaWords.{IsMetaOf}
use Rattle.bucket_meta.specs.Slots.{IsFull, HasOnlyMembers, HasNoMembers}
use Rattle.bucket_meta.proofs.fields.FieldBits.{allocated_is, member_is}
use Rattle.displace.specs.Members.{OnlyMembersBelow, NoMembersBelow}

module _ (m : Meta) (w1 w2 w3 : ℕ) (is : IsMetaOf m w1 w2 w3) where
  pub full_is : IsFull m.alloc ↔ IsFull w1
  full_is = (
    λ full r low. allocated_is m w1 w2 w3 r is low ∙ full r low,
    λ full r low. sym (allocated_is m w1 w2 w3 r is low) ∙ full r low,
  )

  pub only_members : OnlyMembersBelow 14 m ↔ HasOnlyMembers w1
  only_members = (
    λ only r low taken. member_is m w1 w2 w3 r is low ∙ only r low (sym (allocated_is m w1 w2 w3 r is low) ∙ taken),
    λ only r low taken. sym (member_is m w1 w2 w3 r is low) ∙ only r low (allocated_is m w1 w2 w3 r is low ∙ taken),
  )

  pub no_members : NoMembersBelow 14 m ↔ HasNoMembers w1
  no_members = (
    λ none r low taken. member_is m w1 w2 w3 r is low ∙ none r low (sym (allocated_is m w1 w2 w3 r is low) ∙ taken),
    λ none r low taken. sym (member_is m w1 w2 w3 r is low) ∙ none r low (allocated_is m w1 w2 w3 r is low ∙ taken),
  )
