mod CuttingLaws
