mod DoneLaws
